use Rattle.std.proofs.Common.{◌*◌, map}
use Rattle.qap_improve.specs.Table.{HasMoved}
use Rattle.qap_improve.proofs.table.update_rows.Given as goal

abbrev pub invariant-loop-r : goal.invariant-loop-r
invariant-loop-r g l = HasMoved l.instance l.arrangement.locations.items l.exchanged.0 l.exchanged.1 (map g.N.Number.value l.entries) (l.r * l.instance.size)
