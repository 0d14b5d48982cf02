use Rattle.std.proofs.Common.{ℕ, ◌<◌, ◌≤◌, get_or, map}
use Rattle.std.specs.Prelude.{pos, unsigned_abs}
use Rattle.pair_duals.proofs.duals.are_duals.Given as goal

abbrev pub invariant-loop-number : goal.invariant-loop-number
invariant-loop-number g l = (k : ℕ) → k < l.number-index → unsigned_abs (get_or (map g.N.Number.value l.numbers) k (pos 0)) ≤ g.N.Number.limits.dual
