use Rattle.std.proofs.Common.{refl, true}
use Rattle.shared_space.specs.Place.{place_of}
use Rattle.shared_space.specs.Run.{shuts}
use Rattle.shared_space.proofs.UnderLaw.{under_uncounted}
use Rattle.shared_space.proofs.alone.Alone.shut.Goals as goal

pub invariant_of-self : goal.invariant_of-self
invariant_of-self g c =
    let law = g.L.Law in
    let a = c.self.inside in
    let h = c.self.invariant in (
      h.0,
      h.1,
      under_uncounted law.lawful law.allowed law.begins law.changes law.limit law.reached law.goes_on (place_of a.space a.shares a.left a.closed) (place_of a.space a.shares a.left true)
          shuts tt refl (record { same = λ f. refl; counted = refl }) h.2.content refl (λ closed. refl) h.2,
    )
