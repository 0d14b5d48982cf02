use Rattle.std.proofs.Common.{◌≡◌, ℕ, ◌<◌, get_or, length}
use Rattle.assign_dual.proofs.room.put_in_order.Given as goal

abbrev pub invariant-loop-k : goal.invariant-loop-k
invariant-loop-k l = record {
  count : length l.columns ≡ length l.initial.columns;
  at : (j : ℕ) → j < l.k → get_or l.columns j 0 ≡ j;
}
