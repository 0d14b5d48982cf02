use Rattle.std.proofs.Common.{◌≡◌, ◌∙◌, refl, subst, sym}
use Rattle.std.proofs.lemmas.Bool.{or_left}
use Rattle.shared_space.specs.Event.{close, told}
use Rattle.shared_space.specs.Place.{Place, is_to_close, place_of}
use Rattle.shared_space.specs.Run.{asks}
use Rattle.shared_space.proofs.UnderLaw.{under_uncounted}
use Rattle.shared_space.proofs.alone.AloneRoom.close.Goals as goal

pub invariant_of-self : goal.invariant_of-self
invariant_of-self g c =
    let law = g.L.Law in
    let a = c.self.inside in
    let answer = c.is_to_close-self-inside.result in
    let is = subst (λ (p : Place). answer ≡ is_to_close p c.args.template.now) (sym c.self.view_is) c.is_to_close-self-inside.ensures in
    let h = c.self.invariant in (
      h.0,
      h.1,
      under_uncounted law.lawful law.allowed law.begins law.changes law.limit law.reached law.goes_on (place_of a.space a.shares a.left a.closed) (place_of a.space a.shares a.left answer)
          (asks (close c.args.template.now) (told answer)) tt (is, refl) (record { same = λ f. refl; counted = refl }) h.2.content refl (λ closed. is ∙ or_left a.closed _ closed) h.2,
    )
