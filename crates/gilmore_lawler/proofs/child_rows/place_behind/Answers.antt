use Rattle.std.proofs.Common.{arith}
use Rattle.std.specs.Cmp.Lexicographic.{same_text}
use Rattle.gilmore_lawler.proofs.ChildRows.{one_behind}
use Rattle.gilmore_lawler.proofs.child_rows.place_behind.Goals as goal

pub returns-then-eq : goal.returns-then-eq
returns-then-eq c =
    one_behind _ c.args.taken.now c.args.free.now c.args.places.now c.place_of.result (omega (arith, c.if-places-depth-ne1.false)) (same_text _ _ (c.if-eq.ensures {u = tt})) c.place_of.ensures
