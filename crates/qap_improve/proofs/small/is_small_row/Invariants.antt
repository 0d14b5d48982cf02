use Rattle.std.proofs.Common.{ℕ, ◌<◌, ◌≤◌, ◌*◌, ◌^◌, get_or, pos}
use Rattle.std.specs.Prelude.{unsigned_abs}
use Rattle.qap_improve.proofs.small.is_small_row.Given as goal

abbrev pub invariant-loop-entry : goal.invariant-loop-entry
invariant-loop-entry l = (k : ℕ) → k < l.entry-index → unsigned_abs (get_or l.row k (pos 0)) ≤ 5 * 10 ^ 7
