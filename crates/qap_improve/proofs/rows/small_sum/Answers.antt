use Rattle.std.proofs.Common.{◌≤◌, arith, to_z, w64}
use Rattle.std.specs.Prelude.{unsigned_abs}
use Rattle.std.proofs.lemmas.Int.{ints}
use Rattle.qap_cost.proofs.Sums.{AddsUp-more}
use Rattle.qap_improve.proofs.RowProducts.{crossed_with-small, reads_sum, rows-wider}
use Rattle.qap_improve.proofs.rows.small_sum.Goals as goal

pub product_with-with_each-requires-clause-there : goal.product_with-with_each-requires-clause-there
product_with-with_each-requires-clause-there c = rows-wider c.args.there.now.size c.args.there.now c.requires.there

pub product_with-with_each-requires-clause-back : goal.product_with-with_each-requires-clause-back
product_with-with_each-requires-clause-back c = rows-wider c.args.there.now.size c.args.back.now c.requires.back

small : (c : goal.After-product_with-with_each) → unsigned_abs c.product_with-with_each.result ≤ 20000000000000000
small c =
    rw (c.product_with-with_each.ensures.value)
    (crossed_with-small c.args.there.now.size c.args.there.now c.args.back.now c.loop-k.k c.requires.there c.requires.back (omega arith))

pub overflow_add-total : goal.overflow_add-total
overflow_add-total c =
    let term = small c in
    let old = c.loop-k.invariant.small in
    omega (arith, ints, term, old, c.requires.few)

pub loop-k-preserved : goal.loop-k-preserved
loop-k-preserved c =
    let term = small c in
    let old = c.loop-k.invariant.small in
    AddsUp-more _ c.product_with-with_each.result _ _ _ _ c.loop-k.invariant c.product_with-with_each.ensures.value term
    (reads_sum (to_z w64 c.loop-k.total-bits) c.product_with-with_each.result (omega (arith, old, c.requires.few)) term)
