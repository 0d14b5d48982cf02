use Rattle.std.proofs.Common.{map}
use Rattle.std.specs.String.{string_bytes}
use Rattle.csv.specs.Records.{fields_of}
use Rattle.plan_table.proofs.Completions.{filled_more}
use Rattle.plan_table.proofs.halves.completed_row.Goals as goal

pub loop-field-preserved : goal.loop-field-preserved
loop-field-preserved c =
    let more = filled_more (map string_bytes c.args.names.now) (map fields_of c.args.rows.now) (fields_of c.args.row.now) (fields_of c.loop-field.filled) (fields_of c.push_field.new.self) c.word_of.result.now c.loop-field.field c.loop-field.invariant.many c.loop-field.invariant.each c.word_of.ensures c.in_ok-push_field.ensures.fields in
    record { many = more.0; each = more.1 }
