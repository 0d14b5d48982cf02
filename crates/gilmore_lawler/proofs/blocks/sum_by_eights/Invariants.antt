use Rattle.std.specs.Prelude.{◌-◌, ◌≤◌, length}
use Rattle.qap_cost.proofs.Sums.{AddsUp}
use Rattle.gilmore_lawler.proofs.Rearrangement.{product_along}
use Rattle.gilmore_lawler.proofs.blocks.sum_by_eights.Given as goal

abbrev pub invariant-loop-start : goal.invariant-loop-start
invariant-loop-start l = (l.start ≤ length l.xs) × AddsUp l.total (product_along l.xs l.ys) l.start 1000000000000000000

abbrev pub decreases-loop-start : goal.decreases-loop-start
decreases-loop-start l = length l.xs - l.start
