use Rattle.std.proofs.Common.{◌≡◌}
use Rattle.std.specs.Prelude.{pos, ◌*ℤ◌}
use Rattle.pair_duals.proofs.Starts.{linear_so_far}
use Rattle.pair_duals.proofs.start.scaled_linear.Given as goal

abbrev pub invariant-loop-t : goal.invariant-loop-t
invariant-loop-t g l = g.N.Number.value l.total ≡ pos l.scale *ℤ linear_so_far l.instance l.node l.i l.k l.t
