use Rattle.qap_cost.proofs.Sums.{AddsUp}
use Rattle.plan_charge.specs.Spread.{flow_size}
use Rattle.plan_charge.proofs.spread.total_flow.Given as goal

abbrev pub invariant-loop-k : goal.invariant-loop-k
invariant-loop-k l = AddsUp l.total (flow_size l.instance) l.k 1000000000
