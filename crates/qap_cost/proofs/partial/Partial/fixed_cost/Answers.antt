use Rattle.std.proofs.Common.{◌≡◌, ℕ, List, length, arith, ap, ap₂, subst, ◌∙◌, get_or}
use Rattle.std.proofs.lemmas.Int.{ints}
use Rattle.qap_cost.specs.Placement.{Placement, IsPlacement}
use Rattle.qap_cost.specs.Row.{IsRow, product_between}
use Rattle.qap_cost.specs.Sum.{sum_to}
use Rattle.qap_cost.proofs.Sums.{AddsUp-more}
use Rattle.qap_cost.proofs.Placements.{placed_row, products-placed_row, IsPlacement-depth}
use Rattle.qap_cost.proofs.partial.Partial.fixed_cost.Goals as goal

pub placed_product-with_each-requires-clause-small : goal.placed_product-with_each-requires-clause-small
placed_product-with_each-requires-clause-small c =
    let x = c.args.self.now in
    let h : IsPlacement x = subst IsPlacement c.self.view_is c.self.invariant in
    let fs : c.deref-facilities.result.now ≡ x.facilities = c.deref-facilities.ensures.value ∙ ap (λ (y : Placement). y.facilities) c.self.view_is in
    omega (arith, ap length fs, IsPlacement-depth x h, h.small)

pub overflow_add-total : goal.overflow_add-total
overflow_add-total c =
    let x = c.args.self.now in
    let h : IsPlacement x = subst IsPlacement c.self.view_is c.self.invariant in
    let fs : c.deref-facilities.result.now ≡ x.facilities = c.deref-facilities.ensures.value ∙ ap (λ (y : Placement). y.facilities) c.self.view_is in
    omega (arith, ints, ap length fs, IsPlacement-depth x h, h.small, c.loop-s-test.true, c.loop-s.invariant.small, c.placed_product-with_each.ensures.bounded)

pub loop-s-preserved : goal.loop-s-preserved
loop-s-preserved c =
    let I = c.args.instance.now in
    let x = c.args.self.now in
    let h : IsPlacement x = subst IsPlacement c.self.view_is c.self.invariant in
    let fs : c.deref-facilities.result.now ≡ x.facilities = c.deref-facilities.ensures.value ∙ ap (λ (y : Placement). y.facilities) c.self.view_is in
    let ps : c.deref-places.result.now ≡ x.places = c.deref-places.ensures.value ∙ ap (λ (y : Placement). y.places) c.self.view_is in
    let a = c.a_row-a_row.result.now in
    let b = c.b_row-b_row.result.now in
    let s = c.loop-s.s in
    let a_is : IsRow I.size I.a (get_or x.facilities s 0) a =
    subst (λ (k : ℕ). IsRow I.size I.a k a) (c.from.ensures ∙ ap (λ xs. get_or xs s 0) fs) c.a_row-a_row.ensures.row in
    let b_is : IsRow I.size I.b (get_or x.places s 0) b =
    subst (λ (k : ℕ). IsRow I.size I.b k b) (c.from-in-loop-s.ensures ∙ ap (λ xs. get_or xs s 0) ps) c.b_row-b_row.ensures.row in
    let is : c.placed_product-with_each.result ≡ placed_row I x s =
    c.placed_product-with_each.ensures.value
    ∙ ap₂ (λ (f p : List ℕ). sum_to (product_between a b f p) (length f)) fs ps
    ∙ products-placed_row I x s a b h c.requires a_is b_is in
    AddsUp-more _ c.placed_product-with_each.result _ _ _ _ c.loop-s.invariant is c.placed_product-with_each.ensures.bounded
    (omega (arith, ints, ap length fs, IsPlacement-depth x h, h.small, c.loop-s-test.true, c.loop-s.invariant.small, c.placed_product-with_each.ensures.bounded))

pub returns-clause-bounded : goal.returns-clause-bounded
returns-clause-bounded c =
    let x = c.args.self.now in
    let h : IsPlacement x = subst IsPlacement c.self.view_is c.self.invariant in
    let fs : c.deref-facilities.result.now ≡ x.facilities = c.deref-facilities.ensures.value ∙ ap (λ (y : Placement). y.facilities) c.self.view_is in
    omega (arith, ap length fs, IsPlacement-depth x h, h.small, c.loop-s.invariant.small, c.loop-s.auto.s-end)
