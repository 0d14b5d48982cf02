use Rattle.std.proofs.Common.{◌≡◌, ℕ, ◌+◌, ◌-◌, ◌∙◌, sym, ap, arith, length, take, drop, length-take, length-drop}
use Rattle.qap_cost.specs.Sum.{sum_to}
use Rattle.gilmore_lawler.proofs.DotBlocks.{added}
use Rattle.gilmore_lawler.proofs.Rearrangement.{product_along}
use Rattle.gilmore_lawler.specs.Table.{dot}
use Rattle.gilmore_lawler.proofs.blocks.sum_by_eights.Goals as goal

pub loop-start-preserved : goal.loop-start-preserved
loop-start-preserved c =
    let xs = c.args.xs.now in
    let s = c.loop-start.start in
    let long : length (take 8 (drop s xs)) ≡ 8 = omega (arith, length-take 8 (drop s xs), length-drop s xs, c.loop-start-test.true) in (
      c.loop-start-test.true,
      added xs c.args.ys.now _ c.few_products.result c.from-total.result s 8 _ c.loop-start.invariant.1 (omega (arith, c.loop-start-test.true, c.requires.small)) (omega arith) (omega arith) long
          c.few_products.ensures.value c.few_products.ensures.bounded c.from-total.ensures,
    )

pub returns-clause-value : goal.returns-clause-value
returns-clause-value c =
    let xs = c.args.xs.now in
    let s = c.loop-start.start in
    let rest = length xs - s in
    let within = c.loop-start.invariant.0 in
    let long : length (take rest (drop s xs)) ≡ rest = omega (arith, length-take rest (drop s xs), length-drop s xs) in
    let all : s + rest ≡ length xs = omega (arith, within) in
    (added xs c.args.ys.now _ c.few_products-2.result c.from.result s rest _ c.loop-start.invariant.1 (omega (arith, within, c.requires.small)) (omega (arith, c.loop-start-test.false)) (omega arith) long
    (c.few_products-2.ensures.value ∙ ap (λ (n : ℕ). dot (take rest (drop s xs)) (take (n - s) (drop s c.args.ys.now))) (sym c.requires.same_length)) c.few_products-2.ensures.bounded c.from.ensures).value
    ∙ ap (sum_to (product_along xs c.args.ys.now)) all
