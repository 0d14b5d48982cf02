use Rattle.std.proofs.Common.{arith}
use Rattle.std.proofs.lemmas.Int.{ints}
use Rattle.qap_cost.proofs.Sums.{AddsUp-more}
use Rattle.qap_improve.proofs.rows.wide_sum.Goals as goal

pub loop-k-preserved : goal.loop-k-preserved
loop-k-preserved c =
    AddsUp-more _ c.product_with-with_each.result _ _ _ _ c.loop-k.invariant c.product_with-with_each.ensures.value c.product_with-with_each.ensures.bounded
    (omega (arith, ints))
