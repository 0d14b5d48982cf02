use Rattle.std.proofs.Common.{◌<◌, ◌≤◌, ◌-◌, length}
use Rattle.std.specs.List.{AllWithin, HoldsAt}
use Rattle.space_txn.proofs.mark.mark_place.Given as goal

abbrev pub invariant-loop-low : goal.invariant-loop-low
invariant-loop-low l = record {
  within : l.high ≤ length l.marks.items;
  ordered : l.low ≤ l.high;
  before : AllWithin (λ m. m.entry < l.number) l.marks.items 0 l.low;
  at : l.high < length l.marks.items → HoldsAt (λ m. l.number ≤ m.entry) l.marks.items l.high;
}

abbrev pub decreases-loop-low : goal.decreases-loop-low
decreases-loop-low l = l.high - l.low
