-- What the relaxation of a row has done by the time that it reaches a place of the columns.
use Rattle.std.proofs.Common.{◌≡◌, ◌≢◌, ℕ, ◌+◌, ◌<◌, ◌≤◌, List, length, get_or, set, arith, refl, sym, ◌∙◌, subst, inl, inr, get_or-set_other, get_or-set_same}
use Rattle.std.specs.Prelude.{ℤ, pos, ◌+ℤ◌, ◌-ℤ◌, ◌≤ℤ◌, ◌<ℤ◌}
use Rattle.std.proofs.lemmas.Int.{ints}
use Rattle.std.proofs.lemmas.Bool.{cases_eq}
use Rattle.qap_cost.specs.Bijection.{IsBijection}
use Rattle.assign_dual.specs.Steps.{TakesShorter}

-- column k keeps its distance and its origin
abbrev pub Stays : List ℤ → List ℕ → List ℤ → List ℕ → ℕ → Type 0
Stays distances origins new_distances new_origins k = (get_or new_distances k (pos 0) ≡ get_or distances k (pos 0)) × (get_or new_origins k 0 ≡ get_or origins k 0)

-- the distance of column k by way of the row
abbrev pub candidate : List ℤ → List ℤ → ℤ → ℕ → ℤ
candidate row v base k = (base +ℤ get_or row k (pos 0)) -ℤ get_or v k (pos 0)

-- column k has the shorter of the way that it had and the one by the row at this place
abbrev pub Shorter : List ℤ → List ℤ → ℤ → ℕ → List ℤ → List ℕ → List ℤ → List ℕ → ℕ → Type 0
Shorter row v base place distances origins new_distances new_origins k =
    TakesShorter (get_or distances k (pos 0)) (get_or new_distances k (pos 0)) (candidate row v base k) (get_or origins k 0) (get_or new_origins k 0) place

-- the columns from place `place` to before place `now` have the shorter way, and all others stay
pub record Relaxing (row v : List ℤ) (base : ℤ) (place now : ℕ) (columns : List ℕ) (distances : List ℤ) (origins : List ℕ) (new_distances : List ℤ) (new_origins : List ℕ) : Type 0 where
  pub before : (s : ℕ) → s < place → s < length columns → Stays distances origins new_distances new_origins (get_or columns s 0)
  pub passed : (s : ℕ) → place ≤ s → s < now → s < length columns → Shorter row v base place distances origins new_distances new_origins (get_or columns s 0)
  pub ahead : (s : ℕ) → now ≤ s → s < length columns → Stays distances origins new_distances new_origins (get_or columns s 0)

-- before the first of its columns the relaxation has changed nothing
pub Relaxing-none : (row v : List ℤ) (base : ℤ) (place : ℕ) (columns : List ℕ) (distances : List ℤ) (origins : List ℕ) →
    Relaxing row v base place place columns distances origins distances origins
Relaxing-none row v base place columns distances origins = record {
  before = λ s h hn. (refl, refl);
  passed = λ s h lt hn. absurd (omega arith);
  ahead = λ s h hn. (refl, refl);
}

-- the column stays as it was, being as near already
pub Relaxing-keep : (row v : List ℤ) (base : ℤ) (place now : ℕ) (columns : List ℕ) (distances : List ℤ) (origins : List ℕ) (new_distances : List ℤ) (new_origins : List ℕ) →
    Relaxing row v base place now columns distances origins new_distances new_origins → now < length columns →
    get_or new_distances (get_or columns now 0) (pos 0) ≤ℤ candidate row v base (get_or columns now 0) →
    Relaxing row v base place (now + 1) columns distances origins new_distances new_origins
Relaxing-keep row v base place now columns distances origins new_distances new_origins h below near = record {
  before = h.before;
  passed = λ s from lt hn.
      elim (cases_eq s now) [
        | inl here ↦
            let stays = h.ahead now (omega arith) below in
            let shorter : Shorter row v base place distances origins new_distances new_origins (get_or columns now 0) = record {
              at_most_old = omega (arith, ints, stays.0);
              at_most_candidate = near;
              either = inl stays;
            } in
            subst (λ (t : ℕ). Shorter row v base place distances origins new_distances new_origins (get_or columns t 0)) (sym here) shorter
        | inr other ↦ h.passed s from (omega arith) hn
      ];
  ahead = λ s from hn. h.ahead s (omega arith) hn;
}

-- the column is reached the new way
pub Relaxing-take : (row v : List ℤ) (base : ℤ) (place now : ℕ) (columns : List ℕ) (distances : List ℤ) (origins : List ℕ) (new_distances : List ℤ) (new_origins : List ℕ) (value : ℤ) →
    IsBijection columns → length new_distances ≡ length columns → length new_origins ≡ length columns →
    Relaxing row v base place now columns distances origins new_distances new_origins → now < length columns → place ≤ now →
    value ≡ candidate row v base (get_or columns now 0) → value <ℤ get_or new_distances (get_or columns now 0) (pos 0) →
    Relaxing row v base place (now + 1) columns distances origins (set new_distances (get_or columns now 0) value) (set new_origins (get_or columns now 0) place)
Relaxing-take row v base place now columns distances origins new_distances new_origins value order d_count o_count h below started is nearer =
    let k = get_or columns now 0 in
    let k_within : k < length columns = order.within now below in
    let in_d : k < length new_distances = omega (arith, k_within, d_count) in
    let in_o : k < length new_origins = omega (arith, k_within, o_count) in
    let ds = set new_distances k value in
    let os = set new_origins k place in
    let apart : (s : ℕ) → s < length columns → (s ≡ now → ⊥) → get_or columns s 0 ≢ k =
    λ s hs ne e. ne (order.distinct s now hs below e) in
    let d_other : (j : ℕ) → j ≢ k → get_or ds j (pos 0) ≡ get_or new_distances j (pos 0) = λ j ne. get_or-set_other new_distances k j value (pos 0) ne in
    let o_other : (j : ℕ) → j ≢ k → get_or os j 0 ≡ get_or new_origins j 0 = λ j ne. get_or-set_other new_origins k j place 0 ne in
    let stay : (s : ℕ) → s < length columns → (s ≡ now → ⊥) → Stays distances origins new_distances new_origins (get_or columns s 0) → Stays distances origins ds os (get_or columns s 0) =
    λ s hs ne t. (d_other (get_or columns s 0) (apart s hs ne) ∙ t.0, o_other (get_or columns s 0) (apart s hs ne) ∙ t.1) in
    record {
      before = λ s lt hn. stay s hn (λ e. omega arith) (h.before s lt hn);
      passed = λ s from lt hn.
          elim (cases_eq s now) [
            | inl here ↦
                let stays = h.ahead now (omega arith) below in
                let d_here : get_or ds k (pos 0) ≡ value = get_or-set_same new_distances k value (pos 0) in_d in
                let shorter : Shorter row v base place distances origins ds os k = record {
                  at_most_old = omega (arith, ints, stays.0, d_here, nearer);
                  at_most_candidate = omega (arith, ints, d_here, is);
                  either = inr (d_here ∙ is, get_or-set_same new_origins k place 0 in_o);
                } in
                subst (λ (t : ℕ). Shorter row v base place distances origins ds os (get_or columns t 0)) (sym here) shorter
            | inr other ↦
                let old = h.passed s from (omega arith) hn in
                let d_same = d_other (get_or columns s 0) (apart s hn other) in
                let o_same = o_other (get_or columns s 0) (apart s hn other) in
                record {
                  at_most_old = let a = old.at_most_old in omega (arith, ints, d_same, a);
                  at_most_candidate = let a = old.at_most_candidate in omega (arith, ints, d_same, a);
                  either = elim old.either [
                    | inl e ↦ inl (d_same ∙ e.0, o_same ∙ e.1)
                    | inr e ↦ inr (d_same ∙ e.0, o_same ∙ e.1)
                  ];
                }
          ];
      ahead = λ s from hn. stay s hn (λ e. omega arith) (h.ahead s (omega arith) hn);
    }
