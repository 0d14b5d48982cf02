use Rattle.std.proofs.Common.{◌∙◌, sym, arith}
use Rattle.tuple_space.proofs.IndexLemmas.{list_at_is, list_at_past}
use Rattle.tuple_space.proofs.index.numbers_in.Goals as goal

pub returns-then-place-lists : goal.returns-then-place-lists
returns-then-place-lists c =
    let found = c.index-lists-place in
    c.as_slice.ensures ∙ sym (list_at_is c.args.lists.now c.args.place found.result c.if-place-lists.true found.is)

pub returns-else-place-lists : goal.returns-else-place-lists
returns-else-place-lists c =
    let past = c.if-place-lists.false in
    sym (list_at_past c.args.lists.now c.args.place (omega arith))
