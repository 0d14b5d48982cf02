use Rattle.std.proofs.Common.{◌≡◌, length, arith, ap, subst, ◌∙◌, get_or, ℕ}
use Rattle.std.proofs.lemmas.Int.{ints}
use Rattle.qap_cost.specs.Row.{IsRow}
use Rattle.qap_cost.specs.Objective.{row_cost}
use Rattle.qap_cost.proofs.Sums.{AddsUp-more}
use Rattle.qap_cost.proofs.Objectives.{products-row_cost}
use Rattle.qap_cost.proofs.objective.cost.Goals as goal

pub loop-i-preserved : goal.loop-i-preserved
loop-i-preserved c =
    let permutation = c.locations-locations.ensures.permutation in
    let same : length c.locations-locations.result.now ≡ c.args.instance.now.size =
    ap length c.locations-locations.ensures.value ∙ c.requires in
    let row : IsRow c.args.instance.now.size c.args.instance.now.b (get_or c.locations-locations.result.now c.loop-i.i 0) c.b_row-b_row.result.now =
    subst (λ (k : ℕ). IsRow c.args.instance.now.size c.args.instance.now.b k c.b_row-b_row.result.now) c.from.ensures c.b_row-b_row.ensures.row in
    let is : c.row_product-with_each.result ≡ row_cost c.args.instance.now c.locations-locations.result.now c.loop-i.i =
    c.row_product-with_each.ensures.value
    ∙ products-row_cost _ _ _ _ _ permutation.bijection same c.a_row-a_row.ensures.row row in
    AddsUp-more _ c.row_product-with_each.result _ _ _ _ c.loop-i.invariant is c.row_product-with_each.ensures.bounded
    (omega (arith, ints, permutation.small))
