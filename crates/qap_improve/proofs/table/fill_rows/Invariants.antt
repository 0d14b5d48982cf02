use Rattle.std.proofs.Common.{◌*◌, map}
use Rattle.qap_improve.specs.Table.{HasFilled}
use Rattle.qap_improve.proofs.table.fill_rows.Given as goal

abbrev pub invariant-loop-r : goal.invariant-loop-r
invariant-loop-r g l = HasFilled l.instance l.arrangement.locations.items (map g.N.Number.value l.entries) (l.r * l.instance.size)
