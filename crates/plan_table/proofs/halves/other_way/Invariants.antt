use Rattle.std.proofs.Common.{◌≡◌, ◌<◌, ℕ}
use Rattle.plan_table.specs.Trips.{flow_at}
use Rattle.plan_table.proofs.halves.other_way.Given as goal

abbrev pub invariant-loop-j : goal.invariant-loop-j
invariant-loop-j l = (k : ℕ) → k < l.j → flow_at l.n l.entries l.i k ≡ flow_at l.n l.entries k l.i
