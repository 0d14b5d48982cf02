-- What the test for a permutation has found out about the numbers before a place.
use Rattle.std.proofs.Common.{◌≡◌, ℕ, ◌+◌, ◌<◌, ◌≤◌, Bool, true, false, List, length, get_or, set, replicate, arith, refl, sym, ◌∙◌, ap, subst, inl, inr, ◌≢◌}
use Rattle.std.proofs.lemmas.Bool.{cases_eq, cases_lt, both_ways}
use Rattle.std.proofs.lemmas.List.{get_or-replicate, get_or-set_same, get_or-set_other, length-set}
use Rattle.std.proofs.Math.ListN.{get_or-eq_default}
use borrow.Author.Count.{below_more}
use Rattle.qap_cost.specs.Bijection.{IsPerm}

-- the first n numbers are different and below the length of the list, and exactly these are marked
pub record HasSeen (p : List ℕ) (seen : List Bool) (n : ℕ) : Type 0 where
  pub size : length seen ≡ 256
  pub within : (i : ℕ) → i < n → get_or p i 0 < length p
  pub distinct : (i j : ℕ) → i < n → j < n → get_or p i 0 ≡ get_or p j 0 → i ≡ j
  pub marked : (i : ℕ) → i < n → get_or seen (get_or p i 0) false ≡ true
  pub only : (k : ℕ) → get_or seen k false ≡ true → (i : ℕ) × (i < n) × (get_or p i 0 ≡ k)

nothing_marked : (k : ℕ) → get_or (replicate 256 false) k false ≡ false
nothing_marked k =
    elim (cases_lt k 256) [
      | inl below ↦ get_or-replicate 256 k false false below
      | inr past ↦ get_or-eq_default (replicate 256 false) false past
    ]

-- before the first number no number is marked
pub HasSeen-none : (p : List ℕ) → HasSeen p (replicate 256 false) 0
HasSeen-none p = record {
  size = refl;
  within = λ i h. absurd (omega arith);
  distinct = λ i j h k e. absurd (omega arith);
  marked = λ i h. absurd (omega arith);
  only = λ k e. absurd (both_ways (get_or (replicate 256 false) k false) (nothing_marked k) e);
}

-- a number that isn't marked and is below the length is one seen number more, once it is marked
pub HasSeen-more : (p : List ℕ) (seen : List Bool) (n k : ℕ) → HasSeen p seen n → n < length p → k ≡ get_or p n 0 → k < length p → length p ≤ 256 → get_or seen k false ≡ false → HasSeen p (set seen k true) (n + 1)
HasSeen-more p seen n k h below is in_range small unseen =
    let fits : k < length seen = omega (arith, h.size) in
    let new : (i : ℕ) → i < n → get_or p i 0 ≢ k =
    λ i hi e. both_ways (get_or seen k false) unseen (ap (λ c. get_or seen c false) (sym e) ∙ h.marked i hi) in
    record {
      size = length-set seen k true ∙ h.size;
      within = below_more (λ i. get_or p i 0 < length p) n h.within (subst (λ x. x < length p) is in_range);
      distinct = λ i j hi hj e.
          elim (cases_eq i n) [
            | inl i_last ↦ elim (cases_eq j n) [
              | inl j_last ↦ i_last ∙ sym j_last
              | inr j_less ↦ absurd (new j (omega arith) (sym e ∙ ap (λ x. get_or p x 0) i_last ∙ sym is))
            ]
            | inr i_less ↦ elim (cases_eq j n) [
              | inl j_last ↦ absurd (new i (omega arith) (e ∙ ap (λ x. get_or p x 0) j_last ∙ sym is))
              | inr j_less ↦ h.distinct i j (omega arith) (omega arith) e
            ]
          ];
      marked = below_more (λ i. get_or (set seen k true) (get_or p i 0) false ≡ true) n
          (λ i hi. get_or-set_other seen k (get_or p i 0) true false (new i hi) ∙ h.marked i hi)
          (subst (λ x. get_or (set seen k true) x false ≡ true) is (get_or-set_same seen k true false fits));
      only = λ c e.
          elim (cases_eq c k) [
            | inl same ↦ (n, omega arith, sym is ∙ sym same)
            | inr other ↦
                let r = h.only c (sym (get_or-set_other seen k c true false other) ∙ e) in
                (r.0, omega (arith, r.1), r.2)
          ];
    }

-- every number has been looked at
pub HasSeen-all : (p : List ℕ) (seen : List Bool) (n : ℕ) → HasSeen p seen n → length p ≤ n → 0 < length p → length p ≤ 256 → IsPerm p
HasSeen-all p seen n h all positive small = record {
  bijection = record {
    within = λ i below. h.within i (omega arith);
    distinct = λ i j hi hj. h.distinct i j (omega arith) (omega arith);
  };
  positive = positive;
  small = small;
}
