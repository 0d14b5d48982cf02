use Rattle.number_list.specs.NumberList.{numbers_held}
use Rattle.tuple_match.specs.Field.{fields_value}
use Rattle.qap_search.proofs.TupleLemmas.Fields.{no_closed_piece}
use Rattle.qap_search.proofs.tuples.parsing.piece_by_lists.Goals as goal

pub returns-in_err-node : goal.returns-in_err-node
returns-in_err-node c =
    rw c.from_residual.ensures (no_closed_piece (fields_value c.args.fields.items) (numbers_held c.args.before) (numbers_held c.args.last) (c.in_err-node.ensures {u = tt}))
