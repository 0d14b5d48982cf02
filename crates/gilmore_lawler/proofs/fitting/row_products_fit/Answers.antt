use Rattle.std.proofs.Common.{ℕ, get_or, arith, below_more, length, to_z, of_z}
use Rattle.std.specs.Prelude.{pos, ◌+ℤ◌, ◌≤ℤ◌}
use Rattle.std.specs.Int.{w128}
use Rattle.std.proofs.lemmas.Int.{ints}
use Rattle.gilmore_lawler.specs.Table.{dot, segment}
use Rattle.gilmore_lawler.proofs.fitting.row_products_fit.Goals as goal

pub loop-k-preserved : goal.loop-k-preserved
loop-k-preserved c =
    let column = c.requires.column_duals.each c.loop-k.k (omega arith) in
    let product = c.product_with-product.ensures.value in
    let bounded = c.product_with-product.ensures.bounded in
    let not_above = c.if-row_dual-column_duals.false in
    below_more (λ (k : ℕ). (to_z w128 (of_z w128 c.args.row_dual) +ℤ get_or c.args.column_duals.now k (pos 0)) ≤ℤ dot c.args.row.now (segment (length c.args.row.now) c.args.others.now k)) c.loop-k.k
    c.loop-k.invariant
    (grind (arith, ints))
