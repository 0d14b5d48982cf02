use Rattle.std.proofs.Common.{ℕ, ◌<◌}
use Rattle.pair_duals.specs.Fitting.{FitsLocation}
use Rattle.pair_duals.proofs.fitting.fits.Given as goal

abbrev pub invariant-loop-k : goal.invariant-loop-k
invariant-loop-k g l = (k : ℕ) → k < l.k → FitsLocation l.instance l.duals k
