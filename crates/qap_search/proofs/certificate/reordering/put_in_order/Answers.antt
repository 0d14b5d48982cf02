use Rattle.std.proofs.Common.{reverse, ap, sym, ◌∙◌, subst, rules}
use Rattle.std.proofs.lemmas.List.{reverse-reverse}
use Rattle.std.proofs.lemmas.List.Sorted.{IsPermutation-trans, answers_always, ranks_by}
use Rattle.std.specs.Cmp.{int_cmp_total}
use Rattle.std.specs.Cmp.Lexicographic.{lists_total}
use Rattle.number_list.specs.NumberList.{numbers_held}
use Rattle.qap_search.specs.Certificate.InOrder.{AreInOrder, is_before}
use Rattle.qap_search.specs.declared.tuples.parsing.DecidedNode.{DecidedNode}
use Rattle.qap_search.proofs.certificate.reordering.put_in_order.Goals as goal

pub returns-clause-moved : goal.returns-clause-moved
returns-clause-moved c =
    IsPermutation-trans _ _ _ c.sort_by_cached_key.ensures.permutation
    (IsPermutation-trans _ _ _ c.sort_unstable_by.ensures.permutation c.reverse.ensures.permutation)

pub returns-clause-ordered : goal.returns-clause-ordered
returns-clause-ordered c =
    let sorted : AreInOrder c.sort_unstable_by.new.self.items =
    c.sort_unstable_by.ensures.sorted is_before (ranks_by (lists_total int_cmp_total) (λ (d : DecidedNode). numbers_held d.node)) (answers_always _ _ _ (λ f a r g h. search rules)) in
    subst AreInOrder (sym (ap reverse c.reverse.ensures.items ∙ reverse-reverse c.sort_unstable_by.new.self.items)) sorted
