use Rattle.std.proofs.Common.{◌*◌}
use Rattle.qap_improve.specs.Arrangement.{IsTableBefore, content}
use Rattle.qap_improve.proofs.facility_table.fill_rows.Given as goal

abbrev pub invariant-loop-i : goal.invariant-loop-i
invariant-loop-i l = IsTableBefore (l.i * l.instance.size) l.instance.size (content l.instance l.locations l.kind) l.entries
