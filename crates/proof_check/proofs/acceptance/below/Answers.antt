use Rattle.std.proofs.Common.{◌≡◌, ◌^◌, ◌≤◌, pos, unsigned_abs, to_z, of_z, sym, ◌∙◌, ap₂, subst, arith}
use Rattle.std.specs.Prelude.{◌-ℤ◌}
use Rattle.std.specs.Int.{int_div_euclid, int_rem_euclid, w128}
use Rattle.std.proofs.lemmas.Int.{ints}
use Rattle.proof_check.proofs.Closing.{far_read}
use Rattle.proof_tree.proofs.Remainders.{IsRemainder, IsRemainder-euclid}
use Rattle.proof_check.proofs.Multiples.{IsGreatestBelow-remainder}
use Rattle.proof_check.proofs.acceptance.below.Goals as goal

pub returns : goal.returns
returns c =
    let bound = c.args.bound in
    let step = c.args.step in
    let limited : unsigned_abs bound ≤ 10 ^ 24 = c.requires.bound in
    let small : step ≤ 10 ^ 25 = omega (arith, c.ranges.step.fits) in
    let last : to_z w128 (of_z w128 (to_z w128 (of_z w128 bound) -ℤ pos 1)) ≡ bound -ℤ pos 1 = omega (arith, ints, limited) in
    let rest = c.rem_euclid.result in
    let rest_is : rest ≡ int_rem_euclid (bound -ℤ pos 1) (pos step) = c.rem_euclid.ensures.value ∙ ap₂ int_rem_euclid last (omega (arith, ints, small)) in
    let h = subst (IsRemainder step (bound -ℤ pos 1) (int_div_euclid (bound -ℤ pos 1) (pos step))) (sym rest_is) (IsRemainder-euclid step (bound -ℤ pos 1) c.requires.positive) in
    let least = h.least in
    let less = h.less in
    let rest_read : to_z w128 (of_z w128 rest) ≡ rest = far_read rest (omega (arith, ints, least, less, small)) in
    let far : unsigned_abs ((bound -ℤ pos 1) -ℤ rest) ≤ 10 ^ 37 = omega (arith, ints, least, less, small, limited) in
    IsGreatestBelow-remainder step bound _ rest _ c.requires.positive small limited h
    (ap₂ (λ a b. to_z w128 (of_z w128 (a -ℤ b))) last rest_read ∙ far_read ((bound -ℤ pos 1) -ℤ rest) far)
