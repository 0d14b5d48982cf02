use Rattle.std.proofs.Common.{◌∙◌, refl, sym}
use Rattle.shared_space.specs.Event.{begin, begun}
use Rattle.shared_space.specs.Place.{place_of}
use Rattle.shared_space.specs.Run.{asks}
use Rattle.shared_space.proofs.UnderLaw.{under_kept}
use Rattle.shared_space.proofs.alone.AloneRoom.begin.Goals as goal

pub invariant_of-self : goal.invariant_of-self
invariant_of-self g c =
    let law = g.L.Law in
    let a = c.self.inside in
    let new = c.begin.new.self in
    let keeps = c.content_law.ensures.begins a.space c.args.asked c.begin.result new c.begin.ensures in
    let h = c.self.invariant in (
      h.0,
      h.1 ∙ sym keeps.counted,
      under_kept law.lawful law.allowed law.begins law.changes law.limit law.reached law.goes_on law.unordered (place_of a.space a.shares a.left a.closed) (place_of new a.shares a.left a.closed)
          (asks (begin c.args.asked) (begun c.begin.result)) c.requires (c.begin.ensures, refl) keeps keeps (λ closed. closed) h.2,
    )
