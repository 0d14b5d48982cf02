use Rattle.plan_charge.specs.Extended.{IsTable, flow_with}
use Rattle.plan_charge.proofs.extension.flows.Given as goal

abbrev pub invariant-loop-k : goal.invariant-loop-k
invariant-loop-k l = IsTable (flow_with l.instance l.charges) l.size l.k l.flows.items
