use Rattle.std.proofs.Common.{◌≤◌, drop, length}
use Rattle.space_txn.specs.Marks.{mark_in}
use Rattle.space_txn.proofs.MarkLemmas.{Tracks}
use Rattle.space_txn.proofs.mark.are_marks_at.Given as goal

abbrev pub invariant-loop-row : goal.invariant-loop-row
invariant-loop-row l = record {
  within : l.place ≤ length l.marks.items;
  tracks : Tracks (mark_in l.number l.space.entries) l.marks.items l.rows (drop l.place l.marks.items) l.row-index;
}
