use Rattle.qap_search.proofs.TupleLemmas.Fields.{only_field, only_word_test}
use Rattle.qap_search.proofs.tuples.parsing.is_only_word.Goals as goal

pub returns-in-len1 : goal.returns-in-len1
returns-in-len1 c =
    only_word_test c.is_word.result c.args.fields.now c.field-item.result c.args.name.now
    (only_field c.args.fields.now c.field-item.result c.in-len1.len_at_least c.in-len1.len_below c.field-item.is)
    c.is_word.ensures
