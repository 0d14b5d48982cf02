use Rattle.std.proofs.lemmas.Result.{err_from_is_err_and}
use Rattle.std.proofs.Common.{◌∙◌, ◌∷◌, ◌++◌, [], ap, sym, arith}
use Rattle.tuple_space.proofs.IndexLemmas.{list_at_is, list_at_other, list_at_set}
use Rattle.tuple_space.proofs.index.put_number.Goals as goal

pub returns-clause-put : goal.returns-clause-put
returns-clause-put c =
    let lists = c.grow.new.lists.items in
    let long = c.in_ok-grow.ensures.long in
    list_at_set lists c.args.length c.push.new.self (omega arith) ∙ c.in_ok-push.ensures.ok
    ∙ ap (λ l. l ++ c.args.number ∷ []) (sym (list_at_is lists c.args.length c.index_mut.result.now (omega arith) c.index_mut.ensures.value) ∙ c.grow.ensures.same c.args.length)

pub returns-clause-others : goal.returns-clause-others
returns-clause-others c = λ l ne. list_at_other c.grow.new.lists.items c.args.length l c.push.new.self ne ∙ c.grow.ensures.same l

pub returns-in_err-push-clause-err : goal.returns-in_err-push-clause-err
returns-in_err-push-clause-err c =
    let lists = c.grow.new.lists.items in
    let long = c.in_ok-grow.ensures.long in
    let p = err_from_is_err_and c.from_residual-in_err-push.result c.from_residual-in_err-push.ensures.1 in
    rw p.1 (list_at_set lists c.args.length c.push.new.self (omega arith) ∙ c.in_err-push.ensures.err
    ∙ sym (list_at_is lists c.args.length c.index_mut.result.now (omega arith) c.index_mut.ensures.value) ∙ c.grow.ensures.same c.args.length)

pub returns-in_err-push-clause-others : goal.returns-in_err-push-clause-others
returns-in_err-push-clause-others c = λ l ne. list_at_other c.grow.new.lists.items c.args.length l c.push.new.self ne ∙ c.grow.ensures.same l
