-- Locations as texts count them, from 1 on.
use Rattle.std.proofs.Common.{◌≡◌, ◌≢◌, ℕ, ◌+◌, ◌-◌, ◌^◌, ◌<◌, ◌≤◌, List, [], ◌∷◌, length, map, get_or, ℤ, pos, unsigned_abs, refl, sym, ap, ap₂, subst, ◌∙◌, arith}
use Rattle.std.specs.Prelude.{SomeIndex}
use Rattle.std.proofs.lemmas.List.{get_or-map, length-map}
use Rattle.qap_cost.specs.Range.{AllLimited}
use Rattle.qap_cost.specs.Bijection.{IsPerm}
use Rattle.qap_io.specs.Number.{from_one}

-- locations below 2^64 are in range
pub AllLimited-from_one : (p : List ℕ) → ((i : ℕ) → i < length p → get_or p i 0 < 2 ^ 64) → AllLimited (from_one p)
AllLimited-from_one p small = record {
  each = λ j below.
      let inside : j < length p = omega (arith, length-map p (λ k. pos (k + 1))) in
      subst (λ (z : ℤ). unsigned_abs z ≤ 10 ^ 24) (sym (get_or-map (λ k. pos (k + 1)) p j 0 (pos 0) inside)) (omega (arith, small j inside));
}

-- the locations of a permutation, counted from 1, are in range
pub AllLimited-permutation : (p : List ℕ) → IsPerm p → AllLimited (from_one p)
AllLimited-permutation p perm = AllLimited-from_one p (λ i below. omega (arith, perm.bijection.within i below, perm.small))

-- two lists that are the same when counted from 1 are the same
pub from_one-injective : (p q : List ℕ) → from_one p ≡ from_one q → p ≡ q
from_one-injective p q e = sym (back p) ∙ ap (map before) e ∙ back q
  where
    before : ℤ → ℕ
    before z = unsigned_abs z - 1

    back : (p : List ℕ) → map before (from_one p) ≡ p
    back [] = refl
    back (k ∷ p) = ap₂ (λ j q. j ∷ q) (omega arith) (back p)

-- where one of the numbers is no location, they are no permutation
pub no_location-no_permutation : (values : List ℤ) → SomeIndex values (λ i. (k : ℕ) → k < length values → get_or values i (pos 0) ≢ pos (k + 1)) → (p : List ℕ) → IsPerm p → values ≢ from_one p
no_location-no_permutation values some p perm same =
    let many : length values ≡ length p = ap length same ∙ length-map p (λ k. pos (k + 1)) in
    let inside : some.0 < length p = omega (arith, some.1) in
    some.2 (get_or p some.0 0) (omega (arith, perm.bijection.within some.0 inside)) (ap (λ l. get_or l some.0 (pos 0)) same ∙ get_or-map (λ k. pos (k + 1)) p some.0 0 (pos 0) inside)

-- numbers that are those of a list which is no permutation are those of no permutation
pub no_other-permutation : (values : List ℤ) (p : List ℕ) → values ≡ from_one p → (IsPerm p → ⊥) → (q : List ℕ) → IsPerm q → values ≢ from_one q
no_other-permutation values p is none q perm same =
    none (subst IsPerm (sym (from_one-injective p q (sym is ∙ same))) perm)
