use Rattle.tuple_match.specs.Field.{field_value}
use Rattle.qap_search.proofs.TupleLemmas.Fields.{word_said, word_test}
use Rattle.qap_search.proofs.tuples.parsing.is_word.Goals as goal

pub returns-in-Some : goal.returns-in-Some
returns-in-Some c =
    let field = field_value c.args.field.now in
    let said = rw c.in-Some.is at c.as_word_bytes.ensures in
    let asked = rw c.as_bytes.ensures.value at c.eq.ensures in
    word_test c.eq.result c.in-Some.word.now c.args.name.now field asked (word_said field c.in-Some.word.now said)
