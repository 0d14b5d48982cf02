-- The words spell one row of fields, and it breaks the limits of a tuple.
use Rattle.std.proofs.Common.{map}
use Rattle.std.proofs.lemmas.Bool.{false≢true}
use Rattle.tuple_match.specs.Field.{fields_value}
use Rattle.space_script.proofs.Cases.{some_of}
use Rattle.space_script.proofs.OneField.{no_tuple}
use Rattle.space_script.proofs.fields.read_tuple.Goals as goal

pub returns : goal.returns
returns c = no_tuple (map (λ word. word.now) c.args.words.now) (fields_value c.in-Some.fields.items)
    (some_of _ _ _ c.in-Some.fields c.in_ok-fields.ensures c.in-Some.is) (λ limits. false≢true (c.in-Err.ensures.accepted.1 limits))
