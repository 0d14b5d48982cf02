use Rattle.std.proofs.Common.{length, get_or}
use Rattle.assign_dual.proofs.Walks.{Walk}
use Rattle.assign_dual.proofs.path.augment.Given as goal

abbrev pub invariant-loop-place : goal.invariant-loop-place
invariant-loop-place l =
    Walk (length l.columns) (get_or l.tree_rows 0 0) l.columns l.tree_rows l.origins l.done l.initial.matching l.initial.row_of l.matching l.row_of l.column l.place

abbrev pub decreases-loop-place : goal.decreases-loop-place
decreases-loop-place l = l.place
