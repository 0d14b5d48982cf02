use Rattle.qap_cost.proofs.Sums.{AddsUp}
use Rattle.gilmore_lawler.proofs.Rearrangement.{product_along}
use Rattle.gilmore_lawler.proofs.blocks.small_sum.Given as goal

abbrev pub invariant-loop-j : goal.invariant-loop-j
invariant-loop-j l = AddsUp l.sum (product_along l.xs l.ys) l.j 10000000000000000
