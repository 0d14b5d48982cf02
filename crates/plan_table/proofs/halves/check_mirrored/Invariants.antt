use Rattle.std.proofs.Common.{◌≡◌, ◌<◌, ℕ, length}
use Rattle.plan_table.specs.Trips.{flow_at}
use Rattle.plan_table.proofs.halves.check_mirrored.Given as goal

abbrev pub invariant-loop-i : goal.invariant-loop-i
invariant-loop-i l = (k j : ℕ) → k < l.i → j < length l.names → flow_at (length l.names) l.entries k j ≡ flow_at (length l.names) l.entries j k
