use Rattle.std.proofs.Common.{◌≡◌, false, arith, sym, ◌∙◌, ap, w64, of_z}
use Rattle.std.specs.Ordering.{int_eq}
use Rattle.std.proofs.lemmas.Bool.{false_from_ne_true}
use Rattle.std.proofs.lemmas.Bool.Decides.{Decides-int_eq}
use Rattle.pair_duals.specs.CostStep.{is_mirrored}
use Rattle.pair_duals.specs.Numbers.{number_at}
use Rattle.pair_duals.proofs.CostSteps.{all_to-fails}
use Rattle.pair_duals.proofs.step.is_symmetric_row.Goals as goal

pub returns-then-number : goal.returns-then-number
returns-then-number c =
    let f = number_at c.args.instance.now c.args.numbers in
    let i = c.args.i in
    let j = c.loop-j.j in
    let there = c.number.ensures.value in
    let back = c.number-in-loop-j.ensures.value in
    let differ : int_eq (f i j) (f j i) ≡ false =
    false_from_ne_true (int_eq (f i j) (f j i)) (λ same. c.if-number.true (ap (of_z w64) (there ∙ (Decides-int_eq (f i j) (f j i)).0 same ∙ sym back))) in
    sym (all_to-fails (is_mirrored f i) c.args.instance.now.size j (omega (arith, c.size-j-end.ensures.value)) differ)
