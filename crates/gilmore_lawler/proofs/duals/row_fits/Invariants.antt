use Rattle.std.proofs.Common.{ℕ, ◌<◌, get_or}
use Rattle.std.specs.Prelude.{pos, ◌+ℤ◌, ◌≤ℤ◌}
use Rattle.gilmore_lawler.proofs.duals.row_fits.Given as goal

abbrev pub invariant-loop-k : goal.invariant-loop-k
invariant-loop-k l = (k : ℕ) → k < l.k → (l.row_dual +ℤ get_or l.column_duals k (pos 0)) ≤ℤ get_or l.row k (pos 0)
