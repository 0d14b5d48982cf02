use Rattle.std.proofs.Common.{◌≢◌, ℕ, ◌<◌}
use Rattle.std.specs.Prelude.{pos, ◌≤ℤ◌}
use Rattle.pair_duals.specs.PairDuals.{residual}
use Rattle.pair_duals.proofs.fitting.fits_pair.Given as goal

abbrev pub invariant-loop-l : goal.invariant-loop-l
invariant-loop-l g s = (l : ℕ) → l < s.l → s.k ≢ l → pos 0 ≤ℤ residual s.instance s.duals s.i s.k s.j l
