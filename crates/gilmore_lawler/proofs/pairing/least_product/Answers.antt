use Rattle.std.proofs.Common.{◌≡◌, length, arith, sym, ◌∙◌, ap, subst}
use Rattle.std.specs.Int.{w128}
use Rattle.std.proofs.lemmas.Int.{to_z-of_z, fits_signed_from_abs}
use Rattle.std.proofs.lemmas.List.Sorted.{IsPermutation-trans}
use Rattle.qap_cost.specs.Sum.{sum_to}
use Rattle.gilmore_lawler.specs.Order.{IsAscending, IsDescending}
use Rattle.gilmore_lawler.specs.LeastProduct.{IsLeastProduct}
use Rattle.gilmore_lawler.specs.Order.{IsArranged}
use Rattle.gilmore_lawler.proofs.Rearrangement.{IsAscending-from_sort, IsDescending-reverse, AllWithin-arranged, IsArranged-from_copy, IsLeastProduct-sorted, product_along}
use Rattle.gilmore_lawler.proofs.pairing.least_product.Goals as goal

pub sum_of_products-requires-clause-xs_range : goal.sum_of_products-requires-clause-xs_range
sum_of_products-requires-clause-xs_range c =
    let x : IsArranged c.args.xs.now c.deref.result.now =
    subst (IsArranged c.args.xs.now) (sym c.deref.ensures.value)
    (IsArranged-from_copy _ _ _ c.in_ok-ascending.ensures.items c.sort_unstable.ensures.permutation) in
    AllWithin-arranged _ _ _ x c.requires.xs_range

pub sum_of_products-requires-clause-ys_range : goal.sum_of_products-requires-clause-ys_range
sum_of_products-requires-clause-ys_range c =
    let y : IsArranged c.args.ys.now c.deref-2.result.now =
    subst (IsArranged c.args.ys.now) (sym c.deref-2.ensures.value)
    (IsArranged-from_copy _ _ _ c.in_ok-descending.ensures.items (IsPermutation-trans _ _ _ c.sort_unstable-2.ensures.permutation c.reverse.ensures.permutation)) in
    AllWithin-arranged _ _ _ y c.requires.ys_range

pub returns-clause-least : goal.returns-clause-least
returns-clause-least c =
    let up = c.deref.result.now in
    let down = c.deref-2.result.now in
    let x : IsArranged c.args.xs.now up =
    subst (IsArranged c.args.xs.now) (sym c.deref.ensures.value)
    (IsArranged-from_copy _ _ _ c.in_ok-ascending.ensures.items c.sort_unstable.ensures.permutation) in
    let y : IsArranged c.args.ys.now down =
    subst (IsArranged c.args.ys.now) (sym c.deref-2.ensures.value)
    (IsArranged-from_copy _ _ _ c.in_ok-descending.ensures.items (IsPermutation-trans _ _ _ c.sort_unstable-2.ensures.permutation c.reverse.ensures.permutation)) in
    let rising : IsAscending up = subst IsAscending (sym c.deref.ensures.value) (IsAscending-from_sort _ c.sort_unstable.ensures.sorted) in
    let falling : IsDescending down =
    subst IsDescending (sym (c.deref-2.ensures.value ∙ c.reverse.ensures.items)) (IsDescending-reverse _ (IsAscending-from_sort _ c.sort_unstable-2.ensures.sorted)) in
    let is = IsLeastProduct-sorted _ _ up down x y c.requires.same_length rising falling in
    let value = to_z-of_z w128 c.sum_of_products.result (fits_signed_from_abs w128 c.sum_of_products.result (omega arith)) in
    let same : c.sum_of_products.result ≡ sum_to (product_along up down) (length c.args.xs.now) =
    c.sum_of_products.ensures.value ∙ ap (sum_to (product_along up down)) x.same_length in
    subst (IsLeastProduct c.args.xs.now c.args.ys.now) (sym (value ∙ same)) is
