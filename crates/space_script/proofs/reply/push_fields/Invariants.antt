-- The fields so far stand behind spaces.
use Rattle.std.proofs.Common.{◌≡◌, ◌++◌, take, map}
use Rattle.tuple_match.specs.Field.{field_value}
use Rattle.space_script.specs.Reply.{fields_text}
use Rattle.space_script.proofs.reply.push_fields.Given as goal

abbrev pub invariant-loop-field : goal.invariant-loop-field
invariant-loop-field l = l.line.items ≡ l.initial.line.items ++ fields_text (take l.field-index (map field_value l.fields))
