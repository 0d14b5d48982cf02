use Rattle.qap_cost.proofs.Sums.{AddsUp}
use Rattle.plan_charge.specs.Charges.{paid}
use Rattle.plan_charge.proofs.charges.Charges.total.Given as goal

abbrev pub invariant-loop-i : goal.invariant-loop-i
invariant-loop-i l = AddsUp l.total (paid l.n l.self l.locations) l.i 1000000000000000000
