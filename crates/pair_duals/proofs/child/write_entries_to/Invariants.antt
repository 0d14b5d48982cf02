use Rattle.std.proofs.Common.{◌^◌}
use Rattle.std.specs.Prelude.{length}
use Rattle.pair_duals.specs.DualRow.{BeginsDualRow}
use Rattle.pair_duals.specs.Shared.{entry_to}
use Rattle.pair_duals.proofs.child.write_entries_to.Given as goal

abbrev pub invariant-loop-c : goal.invariant-loop-c
invariant-loop-c g s = BeginsDualRow (10 ^ 9) (length s.columns) (entry_to s.instance s.duals s.columns s.l) s.c s.list
