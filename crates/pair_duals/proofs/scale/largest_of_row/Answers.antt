use Rattle.std.proofs.Common.{◌≡◌, ◌∙◌, get_or, ap, arith, inl, inr}
use Rattle.std.specs.Prelude.{pos, unsigned_abs}
use Rattle.qap_cost.proofs.Objectives.{reads_entry}
use Rattle.pair_duals.proofs.Largests.{IsLargestOfRow-more}
use Rattle.pair_duals.proofs.scale.largest_of_row.Goals as goal
use Rattle.pair_duals.proofs.scale.largest_of_row.Goals.{then-size-largest, else-size-largest}

pub loop-number-preserved : goal.loop-number-preserved
loop-number-preserved c =
    let k = c.loop-number.number-index in
    let small = c.requires.range.each k c.loop-number-test.true in
    let read : c.unsigned_abs-size.result ≡ unsigned_abs (get_or c.args.row.now k (pos 0)) = c.unsigned_abs-size.ensures.value ∙ ap unsigned_abs (reads_entry (get_or c.args.row.now k (pos 0)) small) in
    IsLargestOfRow-more c.args.row.now k c.args.before c.loop-number.largest c.if-size-largest.largest c.loop-number-test.true small c.loop-number.invariant
    (elim c.if-size-largest.branch [
      | then-size-largest w ↦ inl (omega (arith, read, w.if-size-largest.true), w.largest-is ∙ read)
      | else-size-largest w ↦ inr (omega (arith, read, w.if-size-largest.false), w.largest-is)
    ])
