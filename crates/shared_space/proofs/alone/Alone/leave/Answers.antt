use Rattle.std.proofs.Common.{◌+◌, ltb, refl, sym}
use Rattle.std.proofs.lemmas.Bool.{cond-true, lt-ltb}
use Rattle.shared_space.specs.Place.{place_of}
use Rattle.shared_space.specs.Run.{leaves}
use Rattle.shared_space.proofs.UnderLaw.{under_uncounted}
use Rattle.shared_space.proofs.alone.Alone.leave.Goals as goal

pub invariant_of-self : goal.invariant_of-self
invariant_of-self g c =
    let law = g.L.Law in
    let a = c.self.inside in
    let old = place_of a.space a.shares a.left a.closed in
    let new = place_of a.space a.shares (a.left + 1) a.closed in
    let h = c.self.invariant in (
      h.0,
      h.1,
      under_uncounted law.lawful law.allowed law.begins law.changes law.limit law.reached law.goes_on old new
          leaves tt (sym (cond-true (ltb a.left a.shares) new old (lt-ltb a.left a.shares c.if-self.true))) (record { same = λ f. refl; counted = refl }) h.2.content refl (λ closed. closed) h.2,
    )
