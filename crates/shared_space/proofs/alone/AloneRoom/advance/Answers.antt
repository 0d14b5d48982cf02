use Rattle.std.proofs.Common.{◌∙◌, refl, sym}
use Rattle.tuple_space.specs.Step.{done_reply}
use Rattle.shared_space.specs.Event.{advance, moved}
use Rattle.shared_space.specs.Place.{place_of}
use Rattle.shared_space.specs.Run.{asks}
use Rattle.shared_space.proofs.UnderLaw.{under_kept}
use Rattle.shared_space.proofs.alone.AloneRoom.advance.Goals as goal

pub invariant_of-self : goal.invariant_of-self
invariant_of-self g c =
    let law = g.L.Law in
    let a = c.self.inside in
    let new = c.advance.new.self in
    let keeps = c.content_law.ensures.advances a.space c.args.moment c.advance.result new c.advance.ensures in
    let h = c.self.invariant in (
      h.0,
      h.1 ∙ sym keeps.counted,
      under_kept law.lawful law.allowed law.begins law.changes law.limit law.reached law.goes_on law.unordered (place_of a.space a.shares a.left a.closed) (place_of new a.shares a.left a.closed)
          (asks (advance c.args.moment) (moved (done_reply c.advance.result))) tt (c.advance.ensures, refl) keeps keeps (λ closed. closed) h.2,
    )
