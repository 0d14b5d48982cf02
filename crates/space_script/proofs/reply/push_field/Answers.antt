use Rattle.std.proofs.Common.{ap}
use Rattle.std.specs.Prelude.{map, pos}
use Rattle.tuple_match.specs.Field.{field_value}
use Rattle.space_script.proofs.reply.push_field.Goals as goal

pub push_lean_list-requires : goal.push_lean_list-requires
push_lean_list-requires c = (map pos c.in-Bytes.field-0, ap field_value c.in-Bytes.is)
