use Rattle.qap_cost.specs.Placement.{IsPlacement}
use Rattle.plan_charge.proofs.Nodes.{IsBegun, IsGrown}
use Rattle.plan_charge.proofs.node.extended_node.Given as goal

abbrev pub invariant-loop-t : goal.invariant-loop-t
invariant-loop-t l = record {
  begun : IsBegun l.count l.t l.node l.extended;
  placement : IsPlacement l.extended;
}

abbrev pub invariant-loop-i : goal.invariant-loop-i
invariant-loop-i l = record {
  grown : IsGrown l.count l.i l.node l.extended;
  placement : IsPlacement l.extended;
}
