use Rattle.std.proofs.Common.{◌≢◌, ◌<◌, ℕ}
use Rattle.plan_table.specs.Places.{point_at}
use Rattle.plan_table.proofs.places.same_before.Given as goal

abbrev pub invariant-loop-j : goal.invariant-loop-j
invariant-loop-j l = (i : ℕ) → i < l.j → point_at l.points i ≢ point_at l.points l.k
