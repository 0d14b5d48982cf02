use Rattle.std.proofs.Common.{◌≡◌, arith, ap₂, ◌∙◌, get_or}
use Rattle.std.specs.Prelude.{◌*ℤ◌, pos}
use Rattle.std.proofs.lemmas.Int.{ints}
use Rattle.qap_cost.proofs.Sums.{AddsUp-more}
use Rattle.qap_cost.proofs.Objectives.{reads_entry}
use Rattle.gilmore_lawler.proofs.Rearrangement.{product_along}
use Rattle.gilmore_lawler.proofs.pairing.sum_of_products.Goals as goal

pub loop-j-preserved : goal.loop-j-preserved
loop-j-preserved c =
    let x = get_or c.args.xs.now c.loop-j.j (pos 0) in
    let y = get_or c.args.ys.now c.loop-j.j (pos 0) in
    let is : c.product-term.result ≡ product_along c.args.xs.now c.args.ys.now c.loop-j.j =
    c.product-term.ensures.value
    ∙ ap₂ ◌*ℤ◌ (reads_entry x (c.requires.xs_range.each c.loop-j.j (omega arith)))
    (reads_entry y (c.requires.ys_range.each c.loop-j.j (omega arith))) in
    AddsUp-more _ c.product-term.result _ _ _ _ c.loop-j.invariant is c.product-term.ensures.bounded (omega (arith, ints))
