use Rattle.qap_cost.proofs.Sums.{AddsUp}
use Rattle.plan_charge.specs.Spread.{charge_range}
use Rattle.plan_charge.proofs.spread.total_range.Given as goal

abbrev pub invariant-loop-i : goal.invariant-loop-i
invariant-loop-i l = AddsUp l.total (charge_range l.n l.charges) l.i 18446744073709551616
