use Rattle.std.proofs.lemmas.Bool.{false≢true}
use Rattle.std.proofs.Common.{sym, ◌∙◌}
use Rattle.number_list.specs.NumberList.{numbers_held}
use Rattle.tuple_match.specs.Field.{fields_value}
use Rattle.qap_search.proofs.TupleLemmas.Fields.{no_numbered_piece}
use Rattle.qap_search.proofs.tuples.parsing.piece_by_number.Goals as goal

pub returns-then-not-is_only_word : goal.returns-then-not-is_only_word
returns-then-not-is_only_word c =
    no_numbered_piece (fields_value c.args.fields.items) c.args.value (numbers_held c.args.last)
    (λ e. false≢true (sym c.if-not-is_only_word.true ∙ c.is_only_word.ensures.1 (rw c.deref.ensures.value e)))
