use Rattle.std.proofs.Common.{◌+◌, ◌*◌}
use Rattle.qap_improve.specs.Arrangement.{IsTableBefore, content}
use Rattle.qap_improve.proofs.facility_table.fill_row.Given as goal

abbrev pub invariant-loop-j : goal.invariant-loop-j
invariant-loop-j l = IsTableBefore (l.i * l.instance.size + l.j) l.instance.size (content l.instance l.locations l.kind) l.entries
