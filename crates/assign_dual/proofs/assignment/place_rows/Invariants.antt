use Rattle.assign_dual.specs.Placed.{IsPlaced}
use Rattle.assign_dual.specs.Room.{HasRoom}
use Rattle.assign_dual.proofs.assignment.place_rows.Given as goal

abbrev pub invariant-loop-root : goal.invariant-loop-root
invariant-loop-root g l = record {
  placed : IsPlaced g.N.Number.value l.n l.entries l.root l.matching l.room;
  room : HasRoom l.n l.room;
}
