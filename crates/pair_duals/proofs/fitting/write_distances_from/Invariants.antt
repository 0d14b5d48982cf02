use Rattle.std.proofs.Common.{◌^◌}
use Rattle.std.specs.Prelude.{length}
use Rattle.pair_duals.specs.DualRow.{BeginsDualRow}
use Rattle.pair_duals.specs.Fitting.{distance}
use Rattle.pair_duals.proofs.fitting.write_distances_from.Given as goal

abbrev pub invariant-loop-l : goal.invariant-loop-l
invariant-loop-l g s = BeginsDualRow (10 ^ 9) (length s.duals.locations) (distance s.instance s.duals s.k) s.l s.list
