use Rattle.std.proofs.Common.{ℕ, ◌^◌, ◌<◌, ◌≤◌, get_or}
use Rattle.std.specs.Prelude.{pos, unsigned_abs}
use Rattle.subtree_search.proofs.level.limit.Given as goal

abbrev pub invariant-loop-number : goal.invariant-loop-number
invariant-loop-number l = (k : ℕ) → k < l.number-index → unsigned_abs (get_or l.numbers k (pos 0)) ≤ 2 ^ 45
