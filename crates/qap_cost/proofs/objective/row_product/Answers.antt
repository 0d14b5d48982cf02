use Rattle.std.proofs.Common.{◌≡◌, arith, ap, ap₂, ◌∙◌, get_or}
use Rattle.std.specs.Prelude.{◌*ℤ◌, pos}
use Rattle.std.proofs.lemmas.Int.{ints}
use Rattle.qap_cost.specs.Row.{product_at}
use Rattle.qap_cost.proofs.Sums.{AddsUp-more}
use Rattle.qap_cost.proofs.Objectives.{reads_entry}
use Rattle.qap_cost.proofs.objective.row_product.Goals as goal

pub loop-j-preserved : goal.loop-j-preserved
loop-j-preserved c =
    let x = get_or c.args.a_row.now c.loop-j.j (pos 0) in
    let y = get_or c.args.b_row.now c.from.result (pos 0) in
    let is : c.product-term.result ≡ product_at c.args.a_row.now c.args.b_row.now c.args.locations.now c.loop-j.j =
    c.product-term.ensures.value
    ∙ ap₂ ◌*ℤ◌ (reads_entry x (c.requires.a_range.each c.loop-j.j (omega arith)))
    (reads_entry y (c.requires.b_range.each c.from.result (omega (arith, c.requires.b_count c.loop-j.j))))
    ∙ ap (λ k. x *ℤ get_or c.args.b_row.now k (pos 0)) c.from.ensures in
    AddsUp-more _ c.product-term.result _ _ _ _ c.loop-j.invariant is c.product-term.ensures.bounded (omega (arith, ints))
