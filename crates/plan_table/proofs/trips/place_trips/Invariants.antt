use Rattle.plan_table.specs.Listing.{ArePlaced}
use Rattle.plan_table.proofs.trips.place_trips.Given as goal

abbrev pub invariant-loop-k : goal.invariant-loop-k
invariant-loop-k l = ArePlaced l.departments l.adds_up l.trips l.amounts l.k l.cells.items
