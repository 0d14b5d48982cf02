use Rattle.std.proofs.Common.{◌≢◌, ◌<◌, ℕ}
use Rattle.plan_table.specs.Places.{point_at}
use Rattle.plan_table.proofs.places.check_apart.Given as goal

abbrev pub invariant-loop-k : goal.invariant-loop-k
invariant-loop-k l = (i j : ℕ) → i < j → j < l.k → point_at l.points i ≢ point_at l.points j
