use Rattle.tuple_match.specs.Field.{field_value}
use Rattle.tuple_match.proofs.FieldLemmas.{IfOk-from_cases, map-AllZip}
use Rattle.tuple_match.proofs.block.copied.Goals as goal

pub returns : goal.returns
returns c = IfOk-from_cases _ _ _ c.to_vec.result c.to_vec.ensures.ok (λ copies same. map-AllZip field_value c.args.fields.now copies.items same)
