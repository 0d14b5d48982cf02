use Rattle.std.proofs.Common.{ℕ, ◌<◌}
use Rattle.pair_duals.specs.Fitting.{FitsFacility}
use Rattle.pair_duals.proofs.fitting.fits_location.Given as goal

abbrev pub invariant-loop-j : goal.invariant-loop-j
invariant-loop-j g l = (j : ℕ) → j < l.j → FitsFacility l.instance l.duals l.k j
