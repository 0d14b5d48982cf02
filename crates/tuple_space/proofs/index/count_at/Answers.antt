use Rattle.std.proofs.Common.{◌∙◌, ap, length, sym, arith}
use Rattle.tuple_space.proofs.IndexLemmas.{list_at_is, list_at_past}
use Rattle.tuple_space.proofs.index.count_at.Goals as goal

pub returns-then-numbers-lists : goal.returns-then-numbers-lists
returns-then-numbers-lists c =
    let lists = c.args.lists.now in
    let found = c.index-lists-numbers in
    ap length (c.as_slice.ensures ∙ sym (list_at_is lists c.args.numbers found.result c.if-numbers-lists.true found.is))

pub returns-else-numbers-lists : goal.returns-else-numbers-lists
returns-else-numbers-lists c =
    let past = c.if-numbers-lists.false in
    ap length (sym (list_at_past c.args.lists.now c.args.numbers (omega arith)))
