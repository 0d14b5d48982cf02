use Rattle.tuple_space.proofs.OrderLemmas.{above_closed, closed_up}
use Rattle.tuple_space.proofs.entries.make_way.Goals as goal

pub returns-clause-places : goal.returns-clause-places
returns-clause-places c = rw c.close_up.ensures.entries (closed_up c.args.places.now.entries c.requires.places).places

pub returns-clause-items : goal.returns-clause-items
returns-clause-items c = rw c.close_up.ensures.entries (closed_up c.args.places.now.entries c.requires.places).are

pub returns-clause-above : goal.returns-clause-above
returns-clause-above c = rw c.close_up.ensures.entries (above_closed c.args.number c.args.places.now.entries c.requires.places c.requires.new)
