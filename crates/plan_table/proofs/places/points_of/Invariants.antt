use Rattle.std.proofs.Common.{◌≡◌, ◌*◌, take}
use Rattle.plan_table.specs.Places.{coordinates_of}
use Rattle.plan_table.proofs.places.points_of.Given as goal

abbrev pub invariant-loop-k : goal.invariant-loop-k
invariant-loop-k l = coordinates_of l.points.items ≡ take (2 * l.k) l.coordinates
