use Rattle.std.proofs.Common.{◌+◌, ◌*◌, map}
use Rattle.qap_improve.specs.Table.{HasMoved}
use Rattle.qap_improve.proofs.table.update_row.Given as goal

abbrev pub invariant-loop-s : goal.invariant-loop-s
invariant-loop-s g l = HasMoved l.instance l.arrangement.locations.items l.fn.exchanged.0 l.fn.exchanged.1 (map g.N.Number.value l.entries) (l.r * l.instance.size + l.s)
