use Rattle.std.proofs.Common.{◌+◌, sym}
use Rattle.csv.specs.Records.{fields_of}
use Rattle.plan_table.proofs.Fields.{no_field}
use Rattle.plan_table.proofs.rows.check_end.Goals as goal

pub returns-in_default : goal.returns-in_default
returns-in_default c = no_field (fields_of c.args.record.now) (c.args.count + 1) (sym (rw c.in_default.is at c.get.ensures.value))
