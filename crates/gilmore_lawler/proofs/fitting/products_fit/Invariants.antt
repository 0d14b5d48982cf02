use Rattle.std.proofs.Common.{ℕ, ◌<◌, get_or, length}
use Rattle.std.specs.Prelude.{pos, ◌+ℤ◌, ◌≤ℤ◌}
use Rattle.gilmore_lawler.specs.Table.{dot, segment}
use Rattle.gilmore_lawler.proofs.fitting.products_fit.Given as goal

abbrev pub invariant-loop-i : goal.invariant-loop-i
invariant-loop-i l =
    (i k : ℕ) → i < l.i → k < length l.v → (get_or l.u i (pos 0) +ℤ get_or l.v k (pos 0)) ≤ℤ dot (segment l.width l.a_rows i) (segment l.width l.b_rows k)
