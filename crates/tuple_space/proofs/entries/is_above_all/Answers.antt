use Rattle.std.proofs.Common.{sym}
use Rattle.std.proofs.lemmas.Bool.{ltb-true}
use Rattle.tuple_space.proofs.OrderLemmas.{above_last}
use Rattle.tuple_space.proofs.entries.is_above_all.Goals as goal

pub returns-in-Some : goal.returns-in-Some
returns-in-Some c = λ less.
    above_last c.args.number c.args.places.now.entries c.requires (c.in-Some.field-0-0.now, c.in-Some.field-0-1.now) (sym c.in-Some.ensures.entry) (ltb-true c.in-Some.field-0-0.now c.args.number less)
