use Rattle.std.proofs.Common.{◌≡◌}
use Rattle.plan_charge.specs.Charges.{charge_of}
use Rattle.plan_charge.specs.Spread.{greatest_to, least_to}
use Rattle.plan_charge.proofs.spread.charge_range.Given as goal

abbrev pub invariant-loop-k : goal.invariant-loop-k
invariant-loop-k l = record {
  least : l.least ≡ least_to (charge_of l.n l.charges l.i) l.k;
  greatest : l.greatest ≡ greatest_to (charge_of l.n l.charges l.i) l.k;
}
