use Rattle.std.proofs.Common.{◌≡◌, ℕ, ◌<◌, get_or, length, map, pos}
use Rattle.assign_dual.proofs.assignment.widen.Given as goal

abbrev pub invariant-loop-k : goal.invariant-loop-k
invariant-loop-k g l = record {
  count : length l.target ≡ length l.numbers;
  filled : (j : ℕ) → j < l.k → get_or l.target j (pos 0) ≡ get_or (map g.N.Number.value l.numbers) j (pos 0);
}
