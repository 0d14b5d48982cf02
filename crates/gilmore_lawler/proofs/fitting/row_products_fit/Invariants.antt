use Rattle.std.proofs.Common.{ℕ, ◌<◌, get_or, length}
use Rattle.std.specs.Prelude.{pos, ◌+ℤ◌, ◌≤ℤ◌}
use Rattle.gilmore_lawler.specs.Table.{dot, segment}
use Rattle.gilmore_lawler.proofs.fitting.row_products_fit.Given as goal

abbrev pub invariant-loop-k : goal.invariant-loop-k
invariant-loop-k l = (k : ℕ) → k < l.k → (l.row_dual +ℤ get_or l.column_duals k (pos 0)) ≤ℤ dot l.row (segment (length l.row) l.others k)
