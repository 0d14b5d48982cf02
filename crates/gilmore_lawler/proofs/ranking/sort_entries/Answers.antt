use Rattle.std.proofs.Common.{sym, subst, rules}
use Rattle.std.proofs.lemmas.List.Sorted.{IsPermutation-trans, answers_always}
use Rattle.std.specs.List.Sorted.{IsSortedByKey}
use Rattle.std.specs.Ordering.{int_cmp}
use Rattle.gilmore_lawler.specs.declared.ranking.Ranked.{Ranked}
use Rattle.gilmore_lawler.specs.declared.side.Side.{Side}
use Rattle.gilmore_lawler.specs.Ranking.{values_of}
use Rattle.gilmore_lawler.specs.Table.{IsOrdered}
use Rattle.gilmore_lawler.proofs.Rankings.{IsAscending-from_keys, IsDescending-values_reverse}
use Rattle.gilmore_lawler.proofs.ranking.sort_entries.Goals as goal

pub returns-in-Flow-clause-ordered : goal.returns-in-Flow-clause-ordered
returns-in-Flow-clause-ordered c =
    let sorted : IsSortedByKey (λ (x : Ranked). x.value) int_cmp c.sort_unstable_by_key.new.self =
    c.sort_unstable_by_key.ensures.sorted (λ (x : Ranked). x.value) (answers_always _ _ _ (λ f a r g h. search rules)) in
    subst (λ (s : Side). IsOrdered s (values_of c.sort_unstable_by_key.new.self)) (sym c.in-Flow.is) (IsAscending-from_keys _ sorted)

pub returns-in-Distance-clause-moved : goal.returns-in-Distance-clause-moved
returns-in-Distance-clause-moved c =
    IsPermutation-trans _ _ _ c.sort_unstable_by_key.ensures.permutation c.reverse.ensures.permutation

pub returns-in-Distance-clause-ordered : goal.returns-in-Distance-clause-ordered
returns-in-Distance-clause-ordered c =
    let sorted : IsSortedByKey (λ (x : Ranked). x.value) int_cmp c.sort_unstable_by_key.new.self =
    c.sort_unstable_by_key.ensures.sorted (λ (x : Ranked). x.value) (answers_always _ _ _ (λ f a r g h. search rules)) in
    subst (λ (s : Side). IsOrdered s (values_of c.reverse.new.self)) (sym c.in-Distance.is)
    (rw c.reverse.ensures.after (IsDescending-values_reverse _ (IsAscending-from_keys _ sorted)))
