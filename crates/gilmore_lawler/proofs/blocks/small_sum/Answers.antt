use Rattle.std.proofs.Common.{◌≡◌, ◌*◌, ◌≤◌, ℤ, arith, ap, ap₂, subst, sym, ◌∙◌, get_or, to_z, of_z}
use Rattle.std.specs.Prelude.{◌+ℤ◌, ◌*ℤ◌, pos, unsigned_abs}
use Rattle.std.specs.Int.{w64}
use Rattle.std.proofs.lemmas.Int.{ints}
use Rattle.qap_cost.specs.Range.{InRange}
use Rattle.qap_cost.proofs.Sums.{AddsUp-more}
use Rattle.qap_cost.proofs.Objectives.{reads_entry}
use Rattle.gilmore_lawler.proofs.DotBlocks.{reads_narrow, reads_sum, small_product}
use Rattle.gilmore_lawler.proofs.Rearrangement.{product_along}
use Rattle.gilmore_lawler.proofs.blocks.small_sum.Goals as goal

pub loop-j-preserved : goal.loop-j-preserved
loop-j-preserved c =
    let j = c.loop-j.j in
    let x = get_or c.args.xs.now j (pos 0) in
    let y = get_or c.args.ys.now j (pos 0) in
    let x_small : unsigned_abs x ≤ 100000000 = c.requires.xs_small.each j (omega arith) in
    let y_small : unsigned_abs y ≤ 100000000 = c.requires.ys_small.each j (omega arith) in
    let x_range : InRange x = omega (arith, x_small) in
    let y_range : InRange y = omega (arith, y_small) in
    let x_is : to_z w64 (of_z w64 c.from.result) ≡ x = ap (λ (z : ℤ). to_z w64 (of_z w64 z)) (c.from.ensures ∙ reads_narrow x x_range) ∙ reads_entry x x_range in
    let y_is : to_z w64 (of_z w64 c.from-in-loop-j.result) ≡ y = ap (λ (z : ℤ). to_z w64 (of_z w64 z)) (c.from-in-loop-j.ensures ∙ reads_narrow y y_range) ∙ reads_entry y y_range in
    let term = c.product-sum.result in
    let is : term ≡ product_along c.args.xs.now c.args.ys.now j = c.product-sum.ensures.value ∙ ap₂ ◌*ℤ◌ x_is y_is in
    let bounded : unsigned_abs term ≤ 10000000000000000 = subst (λ (z : ℤ). unsigned_abs z ≤ 10000000000000000) (sym is) (small_product x y x_small y_small) in
    let read : to_z w64 (of_z w64 term) ≡ term = reads_sum term (omega (arith, bounded)) in
    let old = to_z w64 c.loop-j.sum-bits in
    let few : unsigned_abs old ≤ j * 10000000000000000 = c.loop-j.invariant.small in
    let sum : to_z w64 (of_z w64 (old +ℤ to_z w64 (of_z w64 term))) ≡ old +ℤ term =
    reads_sum (old +ℤ to_z w64 (of_z w64 term)) (omega (arith, ints, read, bounded, few, c.requires.few)) ∙ ap (λ (z : ℤ). old +ℤ z) read in
    AddsUp-more old term _ _ j 10000000000000000 c.loop-j.invariant is bounded sum
