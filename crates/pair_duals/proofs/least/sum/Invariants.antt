use Rattle.std.proofs.Common.{map}
use Rattle.qap_cost.proofs.Sums.{AddsUp}
use Rattle.pair_duals.proofs.Values.{value_at}
use Rattle.pair_duals.proofs.least.sum.Given as goal

abbrev pub invariant-loop-number : goal.invariant-loop-number
invariant-loop-number g l = AddsUp l.sum (value_at (map g.N.Number.value l.numbers)) l.number-index g.N.Number.limits.sum
