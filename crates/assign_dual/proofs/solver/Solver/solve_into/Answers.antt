use Rattle.std.proofs.Common.{◌≤◌}
use Rattle.assign_dual.proofs.Rooms.{HoldsNumbers-fewer, HoldsTrees-fewer}
use Rattle.assign_dual.proofs.solver.Solver.solve_into.Goals as goal

pub invariant_of-self : goal.invariant_of-self
invariant_of-self c =
    let kept = c.least.ensures in
    let held = c.self.invariant in
    (kept.trees _ held.0, kept.numbers _ held.1, held.2)

pub invariant_of-self-else-are_within : goal.invariant_of-self-else-are_within
invariant_of-self-else-are_within c =
    let kept = c.least-else-are_within.ensures in
    let held = c.self.invariant in
    (kept.trees _ held.0, held.1, kept.numbers _ held.2)

pub returns-then-are_within-clause-there : goal.returns-then-are_within-clause-there
returns-then-are_within-clause-there c = λ few room.
    let held = c.self.invariant in
    let fits : c.args.matrix.now.size ≤ c.self.inside.room = rw (c.self.view_is) few in
    c.least.ensures.there (HoldsTrees-fewer _ _ c.self.inside.trees fits held.0) (HoldsNumbers-fewer _ _ c.self.inside.narrow fits held.1) room

pub returns-else-are_within-clause-there : goal.returns-else-are_within-clause-there
returns-else-are_within-clause-there c = λ few room.
    let held = c.self.invariant in
    let fits : c.args.matrix.now.size ≤ c.self.inside.room = rw (c.self.view_is) few in
    c.least-else-are_within.ensures.there (HoldsTrees-fewer _ _ c.self.inside.trees fits held.0) (HoldsNumbers-fewer _ _ c.self.inside.wide fits held.2) room
