use Rattle.std.proofs.Common.{ℕ, ◌<◌, ◌≤◌, get_or, pos}
use Rattle.std.specs.Prelude.{unsigned_abs}
use Rattle.assign_dual.proofs.range.are_within.Given as goal

abbrev pub invariant-loop-number : goal.invariant-loop-number
invariant-loop-number l = (k : ℕ) → k < l.number-index → unsigned_abs (get_or l.numbers k (pos 0)) ≤ l.limit
