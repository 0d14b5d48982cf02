use Rattle.std.proofs.Common.{◌≡◌}
use Rattle.plan_charge.specs.Spread.{distance_at, greatest_to, least_to}
use Rattle.plan_charge.proofs.spread.distance_range.Given as goal

abbrev pub invariant-loop-k : goal.invariant-loop-k
invariant-loop-k l = record {
  least : l.least ≡ least_to (distance_at l.instance) l.k;
  greatest : l.greatest ≡ greatest_to (distance_at l.instance) l.k;
}
