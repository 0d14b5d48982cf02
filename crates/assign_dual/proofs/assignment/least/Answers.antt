use Rattle.std.proofs.Common.{refl}
use Rattle.assign_dual.proofs.Solved.{IsLeast-placed}
use Rattle.assign_dual.proofs.assignment.least.Goals as goal

pub returns-clause-least : goal.returns-clause-least
returns-clause-least g c = IsLeast-placed c.args.matrix.now _ _ _ _ c.place_all.ensures.placed refl refl refl

pub returns-clause-room : goal.returns-clause-room
returns-clause-room g c = λ n h. c.place_all.ensures.room n (c.in_ok-make_ready-3.ensures.kept n h)
