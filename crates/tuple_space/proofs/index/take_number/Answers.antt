use Rattle.std.proofs.Common.{◌∙◌, ap, subst, sym, arith}
use Rattle.std.specs.Prelude.{filter, not}
use Rattle.tuple_space.specs.Held.{AreRising}
use Rattle.std.proofs.Common.{eqb}
use Rattle.tuple_space.proofs.IndexLemmas.{list_at_is, list_at_other, list_at_past, list_at_set}
use Rattle.tuple_space.proofs.index.take_number.Goals as goal

pub remove-requires : goal.remove-requires
remove-requires c =
    subst AreRising (list_at_is c.args.lists.now.items c.args.length c.index_mut.result.now (omega arith) c.index_mut.ensures.value) c.requires

pub returns-then-length-len-clause-gone : goal.returns-then-length-len-clause-gone
returns-then-length-len-clause-gone c =
    let lists = c.args.lists.now.items in
    list_at_set lists c.args.length c.remove.new.self (omega arith) ∙ c.remove.ensures
    ∙ ap (filter (λ n. not (eqb n c.args.number))) (sym (list_at_is lists c.args.length c.index_mut.result.now (omega arith) c.index_mut.ensures.value))

pub returns-then-length-len-clause-others : goal.returns-then-length-len-clause-others
returns-then-length-len-clause-others c = λ l ne. list_at_other c.args.lists.now.items c.args.length l c.remove.new.self ne

pub returns-else-length-len-clause-gone : goal.returns-else-length-len-clause-gone
returns-else-length-len-clause-gone c =
    let none = list_at_past c.args.lists.now.items c.args.length (omega arith) in
    none ∙ sym (ap (filter (λ n. not (eqb n c.args.number))) none)
