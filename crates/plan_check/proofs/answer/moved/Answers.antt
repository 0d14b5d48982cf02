use Rattle.std.proofs.Common.{◌≡◌, ◌∙◌, List, ap, arith, below_more, get_or, refl, subst, sym, ℕ}
use Rattle.qap_cost.specs.Bijection.{IsBijection}
use Rattle.qap_cost.specs.Placement.{StandsAt}
use Rattle.plan_check.proofs.Reasons.{stands_once}
use Rattle.plan_check.proofs.answer.moved.Goals as goal
use Rattle.plan_check.proofs.answer.moved.Goals.{in-Some+else-locations-facility, in_default}

pub returns : goal.returns
returns c =
    let x = c.args.fixed.now in
    let value = c.locations-locations.ensures.value in
    record {
      bijection = subst IsBijection value c.locations-locations.ensures.permutation.bijection;
      same_size = c.requires;
      agrees = λ t placed.
          let inside = c.size-facility-end.ensures.placement.facilities.within t placed in
          let stands = c.loop-facility.invariant (get_or x.facilities t 0) (omega (arith, inside)) (get_or x.places t 0) (record { turn = t; placed = placed; facility = refl; location = refl }) in
          sym (ap (λ (l : List ℕ). get_or l (get_or x.facilities t 0) 0) value) ∙ stands;
    }

pub loop-facility-preserved : goal.loop-facility-preserved
loop-facility-preserved c =
    let x = c.args.fixed.now in
    let p = c.locations-locations.result.now in
    let f = c.loop-facility.facility in
    below_more (λ i. (k : ℕ) → StandsAt x i k → get_or p i 0 ≡ k) f c.loop-facility.invariant (λ k stands. elim c.match-at.branch [
      | in-Some+else-locations-facility w ↦
          let same : w.in-Some.location ≡ k = stands_once x f w.in-Some.location k c.size-facility-end.ensures.placement w.in-Some.ensures stands in
          omega (arith, same, w.if-locations-facility.false)
      | in_default w ↦ absurd (w.in_default.ensures k stands)
    ])
