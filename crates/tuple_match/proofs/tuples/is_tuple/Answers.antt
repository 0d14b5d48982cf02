use Rattle.std.proofs.Common.{rules}
use Rattle.std.proofs.lemmas.List.Elements.{All-map}
use Rattle.std.proofs.lemmas.List.{length-map}
use Rattle.tuple_match.specs.Field.{field_value}
use Rattle.tuple_match.specs.FieldValue.{IsField}
use Rattle.tuple_match.proofs.FieldLemmas.{All-from_map}
use Rattle.tuple_match.proofs.tuples.is_tuple.Goals as goal

pub returns-then-fields-le-MOST_FIELDS : goal.returns-then-fields-le-MOST_FIELDS
returns-then-fields-le-MOST_FIELDS c = (
  λ t. record {
    some = simp length-map (search rules);
    few = simp length-map (search rules);
    each = All-map IsField field_value c.args.fields.now (c.are_within_limits.ensures.0 t);
  },
  λ h. c.are_within_limits.ensures.1 (All-from_map IsField field_value c.args.fields.now h.each),
)
