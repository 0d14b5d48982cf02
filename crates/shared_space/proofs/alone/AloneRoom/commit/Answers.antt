use Rattle.std.proofs.Common.{◌≡◌, ◌||◌, ◌∙◌, false, ℕ, Bool, Option, ap, arith, subst, sym}
use Rattle.shared_space.specs.Limit.{is_reached}
use Rattle.shared_space.specs.Place.{place_of}
use Rattle.shared_space.proofs.UnderLaw.{under_committed}
use Rattle.shared_space.proofs.alone.AloneRoom.commit.Goals as goal

pub invariant_of-self-2 : goal.invariant_of-self-2
invariant_of-self-2 g c =
    let law = g.L.Law in
    let a = c.self.inside in
    let new = c.commit_leaving.new.self in
    let change = c.in-Ok.ensures.content in
    let counted = change.counted in
    let h = c.self.invariant in
    let total = h.1 in
    let at = λ (n : ℕ). is_reached a.limit n in
    let below : is_reached law.limit a.space.commits ≡ false =
    subst (λ (limit : Option ℕ). is_reached limit a.space.commits ≡ false) h.0 (ap at (sym c.commits.ensures.value) ∙ sym c.is_reached.ensures ∙ c.if-is_reached.false) in
    let now : c.is_reached-2.result ≡ is_reached law.limit new.commits =
    subst (λ (limit : Option ℕ). c.is_reached-2.result ≡ is_reached limit new.commits) h.0 (c.is_reached-2.ensures ∙ ap at c.commits-2.ensures.value) in (
      h.0,
      omega arith,
      under_committed law.lawful law.allowed law.begins law.changes law.limit law.reached law.goes_on law.unordered law.keeps (place_of a.space a.shares a.left a.closed)
          (place_of new a.shares a.left (a.closed || c.is_reached-2.result)) c.args.txn c.requires
          (below, c.in-Ok.ensures.step, ap (λ (b : Bool). place_of new a.shares a.left (a.closed || b)) now) change h.2,
    )
