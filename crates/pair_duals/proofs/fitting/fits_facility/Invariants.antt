use Rattle.std.proofs.Common.{ℕ, ◌<◌}
use Rattle.pair_duals.specs.Fitting.{FitsPair}
use Rattle.pair_duals.proofs.fitting.fits_facility.Given as goal

abbrev pub invariant-loop-i : goal.invariant-loop-i
invariant-loop-i g l = (i : ℕ) → i < l.i → FitsPair l.instance l.duals i l.k l.j
