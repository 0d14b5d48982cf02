use Rattle.std.proofs.Common.{◌≡◌, arith, ap₂, ◌∙◌, get_or}
use Rattle.std.specs.Prelude.{◌*ℤ◌, pos}
use Rattle.std.proofs.lemmas.Int.{ints}
use Rattle.qap_cost.specs.Row.{product_between}
use Rattle.qap_cost.proofs.Sums.{AddsUp-more}
use Rattle.qap_cost.proofs.Objectives.{reads_entry}
use Rattle.qap_cost.proofs.partial.placed_product.Goals as goal

pub loop-t-preserved : goal.loop-t-preserved
loop-t-preserved c =
    let x = get_or c.args.a_row.now c.from-i.result (pos 0) in
    let y = get_or c.args.b_row.now c.from-k.result (pos 0) in
    let is : c.product-term.result ≡ product_between c.args.a_row.now c.args.b_row.now c.args.facilities.now c.args.places.now c.loop-t.t =
    c.product-term.ensures.value
    ∙ ap₂ ◌*ℤ◌ (reads_entry x (c.requires.a_range.each c.from-i.result (omega (arith, c.from-i.ensures, c.requires.a_count c.loop-t.t))))
    (reads_entry y (c.requires.b_range.each c.from-k.result (omega (arith, c.from-k.ensures, c.requires.paired, c.requires.b_count c.loop-t.t))))
    ∙ ap₂ (λ i k. get_or c.args.a_row.now i (pos 0) *ℤ get_or c.args.b_row.now k (pos 0)) c.from-i.ensures c.from-k.ensures in
    AddsUp-more _ c.product-term.result _ _ _ _ c.loop-t.invariant is c.product-term.ensures.bounded (omega (arith, ints))
