use Rattle.shared_space.specs.Place.{place_of}
use Rattle.shared_space.proofs.LawLemmas.{closed_at_0}
use Rattle.shared_space.proofs.alone.Alone.is_closed.Goals as goal

pub returns-clause-at_0 : goal.returns-clause-at_0
returns-clause-at_0 g c = λ is.
    let a = c.self.inside in
    closed_at_0 g.L.Law.limit (place_of a.space a.shares a.left a.closed) is c.self.invariant.2.limited
