use Rattle.std.proofs.Common.{ℕ, ◌<◌, get_or}
use Rattle.std.specs.Prelude.{pos, ◌+ℤ◌, ◌≤ℤ◌}
use Rattle.qap_cost.specs.Matrix.{entry_of}
use Rattle.gilmore_lawler.proofs.duals.fits.Given as goal

abbrev pub invariant-loop-i : goal.invariant-loop-i
invariant-loop-i l =
    (i k : ℕ) → i < l.i → k < l.matrix.size → (get_or l.u i (pos 0) +ℤ get_or l.v k (pos 0)) ≤ℤ entry_of l.matrix i k
