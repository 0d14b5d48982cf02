use Rattle.plan_charge.specs.Extended.{IsTable, distance_with}
use Rattle.plan_charge.proofs.extension.distances.Given as goal

abbrev pub invariant-loop-k : goal.invariant-loop-k
invariant-loop-k l = IsTable (distance_with l.instance l.charges) l.size l.k l.distances.items
