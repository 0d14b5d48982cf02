use Rattle.std.proofs.Common.{◌<◌, ◌+◌, ◌-◌, ◌/◌, length, arith}
use Rattle.space_txn.proofs.MarkOrder.{below_to}
use Rattle.space_txn.proofs.mark.mark_place.Goals as goal

pub loop-low-preserved-then-at-number : goal.loop-low-preserved-then-at-number
loop-low-preserved-then-at-number c =
    let ms = c.args.marks.now.items in
    let middle = c.loop-low.low + (c.loop-low.high - c.loop-low.low) / 2 in
    let inside : middle < length ms = omega (arith, c.loop-low.invariant.within, c.loop-low-test.true) in
    record {
      within = c.loop-low.invariant.within;
      ordered = omega (arith, c.loop-low-test.true);
      before = below_to c.args.number ms middle c.at.result.now c.len-high.ensures.rising inside c.at.ensures c.if-at-number.true;
      at = c.loop-low.invariant.at;
    }
