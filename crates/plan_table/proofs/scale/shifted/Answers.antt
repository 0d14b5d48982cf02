use Rattle.std.proofs.Common.{◌∙◌, ◌*ℤ◌, ap, arith, pos, to_z}
use Rattle.std.specs.Int.{w64}
use Rattle.std.proofs.lemmas.Int.{fits_signed_mul, to_z-of_z}
use Rattle.plan_table.specs.Scale.{shifted}
use Rattle.plan_table.proofs.Scaling.{far_stays, shifted-more}
use Rattle.plan_table.proofs.scale.shifted.Goals as goal

pub returns-then-unsigned_abs-gt-MAX_ENTRY : goal.returns-then-unsigned_abs-gt-MAX_ENTRY
returns-then-unsigned_abs-gt-MAX_ENTRY c =
    let same = to_z-of_z w64 c.args.number c.ranges.number in
    let is = c.loop.invariant ∙ ap (λ z. shifted z c.loop.counter) same in
    far_stays c.args.number (to_z w64 c.loop.value-bits) c.loop.counter c.args.power (omega arith) is (omega (arith, c.unsigned_abs.ensures.value))

pub loop-preserved : goal.loop-preserved
loop-preserved c =
    let value = to_z w64 c.loop.value-bits in
    let fits = fits_signed_mul w64 value (pos 10) 1000000000 10 (omega (arith, c.unsigned_abs.ensures.value)) (omega arith) (omega arith) in
    to_z-of_z w64 (value *ℤ pos 10) fits ∙ shifted-more _ value c.loop.counter c.loop.invariant
