-- Locations read one after another.
use Rattle.std.proofs.Common.{◌≡◌, ◌≢◌, ℕ, ◌+◌, ◌<◌, ◌≤◌, List, [], ◌∷◌, ◌++◌, length, get_or, pos, refl, sym, ◌∙◌, ap, subst, arith, length-append}
use Rattle.std.specs.Prelude.{ℤ}
use Rattle.std.proofs.lemmas.List.{map-append}
use Rattle.qap_cost.specs.Bijection.{AreDifferent, IsPerm}
use Rattle.qap_cost.proofs.Placements.{AreDifferent-more}
use Rattle.qap_text.specs.Spelling.{IsNumberAt, Spells}
use Rattle.qap_io.specs.Number.{from_one}
use Rattle.qap_text.proofs.Spellings.{Spells-append}

-- what reading locations has found so far
pub record HasReadLocations (text : List ℕ) (from n : ℕ) (p : List ℕ) (stop count : ℕ) : Type 0 where
  pub spelled : Spells text from (from_one p) stop
  pub right : AreDifferent n p
  pub counted : length p ≡ count
  pub in_text : stop ≤ length text

-- one location more has been read, which is none of those before it
pub HasReadLocations-more : (text : List ℕ) (from n : ℕ) (p new : List ℕ) (stop start next count k : ℕ) → HasReadLocations text from n p stop count → k < n → ((i : ℕ) → i < length p → get_or p i 0 ≢ k) → IsNumberAt text stop start next (pos (k + 1)) → new ≡ p ++ k ∷ [] → HasReadLocations text from n new next (count + 1)
HasReadLocations-more text from n p new stop start next count k h small other number is = record {
  spelled = subst (λ (zs : List ℤ). Spells text from zs next) (sym (ap from_one is ∙ map-append (λ x. pos (x + 1)) p (k ∷ [])))
      (Spells-append text from (from_one p) stop (pos (k + 1) ∷ []) next h.spelled (start, next, number, refl));
  right = subst (AreDifferent n) (sym is) (AreDifferent-more n k p h.right (record { within = small; untaken = other }));
  counted = ap length is ∙ length-append p (k ∷ []) ∙ ap (λ m. m + 1) h.counted;
  in_text = number.word.in_text;
}

-- n different locations below n are a permutation
pub IsPerm-from_different : (n : ℕ) (p : List ℕ) → AreDifferent n p → length p ≡ n → 0 < n → n ≤ 256 → IsPerm p
IsPerm-from_different n p h is positive small = record {
  bijection = record { within = λ i below. subst (λ (m : ℕ). get_or p i 0 < m) (sym is) (h.within i below); distinct = h.distinct };
  positive = omega arith;
  small = omega arith;
}
