use Rattle.std.proofs.Common.{◌∙◌, ◌-◌, ap, length, sym, arith}
use Rattle.std.specs.Prelude.{take}
use Rattle.tuple_space.proofs.IndexLemmas.{list_at_is, list_at_other, list_at_set}
use Rattle.tuple_space.proofs.index.take_back.Goals as goal

pub returns-clause-back : goal.returns-clause-back
returns-clause-back c =
    let lists = c.args.lists.now.items in
    let i = c.args.place in
    list_at_set lists i c.drop_last.new.self (omega arith) ∙ c.drop_last.ensures
    ∙ ap (λ ns. take (length ns - 1) ns) (sym (list_at_is lists i c.index_mut.result.now (omega arith) c.index_mut.ensures.value))

pub returns-clause-others : goal.returns-clause-others
returns-clause-others c = λ l ne. list_at_other c.args.lists.now.items c.args.place l c.drop_last.new.self ne
