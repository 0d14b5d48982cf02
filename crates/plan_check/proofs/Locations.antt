-- Locations counted from 1, as a permutation.
use Rattle.std.proofs.Common.{◌≡◌, ◌∙◌, ℕ, ◌+◌, ◌<◌, ◌≤◌, List, length, map, get_or, ap, arith, inl, inr, sym}
use Rattle.std.proofs.lemmas.Bool.{cases_lt}
use Rattle.std.proofs.lemmas.List.{get_or-map, length-map}
use Rattle.qap_cost.specs.Bijection.{IsPerm}
use Rattle.plan_check.specs.Apart.{AreApart}

-- different numbers from 1 to their count are a permutation's locations
pub locations_of_perm : (numbers locations : List ℕ) (n : ℕ) → numbers ≡ map (λ k. k + 1) locations → length numbers ≡ n → 0 < n → n ≤ 256
    → ((i : ℕ) → i < length numbers → get_or numbers i 0 ≤ n) → AreApart numbers (length numbers) → IsPerm locations
locations_of_perm numbers locations n listed long some small within apart =
    let same : length numbers ≡ length locations = ap (λ (l : List ℕ). length l) listed ∙ length-map locations (λ k. k + 1) in
    let at : (i : ℕ) → i < length locations → get_or numbers i 0 ≡ get_or locations i 0 + 1 =
    λ i inside. ap (λ (l : List ℕ). get_or l i 0) listed ∙ get_or-map (λ k. k + 1) locations i 0 0 inside in
    record {
      bijection = record {
        within = λ i inside. omega (arith, at i inside, within i (omega arith));
        distinct = λ i j first second equal. one_place i j first second (omega (arith, at i first, at j second, equal)) (omega (arith, same)) (omega (arith, same));
      };
      positive = omega arith;
      small = omega arith;
    }
  where
    one_place : (i j : ℕ) → i < length locations → j < length locations → get_or numbers i 0 ≡ get_or numbers j 0 → i < length numbers → j < length numbers → i ≡ j
    one_place i j first second equal here there = elim (cases_lt i j) [
      | inl less ↦ absurd (apart j there i less equal)
      | inr more ↦ elim (cases_lt j i) [
        | inl above ↦ absurd (apart i here j above (sym equal))
        | inr least ↦ omega arith
      ]
    ]
