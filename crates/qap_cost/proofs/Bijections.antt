-- The laws of permutations: each number is reached, the inverse is a permutation, and a sum may be taken in any order.
use Rattle.std.proofs.Common.{◌≡◌, ◌≢◌, ℕ, zero, suc, ◌<◌, ◌≤◌, sym, ◌∙◌, ap, arith, nat_eq, false, cond, List, [], ◌∷◌, map, length, get_or, inl, inr}
use Rattle.std.specs.Prelude.{ℤ, pos, ◌⊎◌}
use Rattle.std.specs.List.{IsDistinct, All, range_with_len}
use Rattle.std.proofs.lemmas.List.FromFn.{length-map-range_with_len, get_or-map-range_with_len}
use Rattle.std.proofs.lemmas.List.{get_or_default}
use Rattle.std.proofs.lemmas.List.Elements.{recursion_from_All}
use Rattle.std.proofs.lemmas.List.Folds.{Any-from_list_any}
use Rattle.std.proofs.lemmas.Map.Keys.{IsDistinct-cons}
use Rattle.std.proofs.lemmas.Map.Steps.{length-le_from_distinct_below}
use Rattle.std.proofs.lemmas.Bool.{ne_eqb, eqb-true, eq-eqb, cases_eq}
use Rattle.qap_cost.specs.Sum.{sum_to}
use Rattle.qap_cost.specs.Bijection.{IsBijection, IsInverse, IsPerm}
use Rattle.qap_cost.proofs.Sums.{sum_to-same, sum_to-exchange, only_at, sum_to-only_at}

-- lists whose numbers differ from place to place have no number twice
distinct_lem : (xs : List ℕ) → ((i j : ℕ) → i < length xs → j < length xs → get_or xs i 0 ≡ get_or xs j 0 → i ≡ j) → IsDistinct nat_eq xs
unfolding IsDistinct
distinct_lem [] h = tt
distinct_lem (x ∷ xs) h =
    let apart : All (λ y. nat_eq x y ≡ false) xs =
    λ i d below. ne_eqb x (get_or xs i d) (λ e.
    let far : zero ≡ suc i = h zero (suc i) (omega arith) (omega arith) (e ∙ get_or_default xs i d 0 below) in
    omega arith) in (
      recursion_from_All (λ y. nat_eq x y ≡ false) xs apart,
      distinct_lem xs (λ i j hi hj e. let s : suc i ≡ suc j = h (suc i) (suc j) (omega arith) (omega arith) e in omega arith),
    )

-- some place below n has the number k, or none has
find_at : (p : List ℕ) (k n : ℕ) → ((i : ℕ) × (i < n) × (get_or p i 0 ≡ k)) ⊎ ((i : ℕ) → i < n → get_or p i 0 ≢ k)
find_at p k zero = inr (λ i h. absurd (omega arith))
find_at p k (suc n) =
    elim (find_at p k n) [
      | inl found ↦ inl (found.0, omega arith, found.2)
      | inr none ↦ elim (cases_eq (get_or p n 0) k) [
        | inl here ↦ inl (n, omega arith, here)
        | inr other ↦ inr (λ i h e. elim (cases_eq i n) [
          | inl same ↦ other (ap (λ j. get_or p j 0) (sym same) ∙ e)
          | inr less ↦ none i (omega arith) e
        ])
      ]
    ]

within_cons : (p : List ℕ) (k : ℕ) → IsBijection p → k < length p → (i : ℕ) → i < length (k ∷ p) → get_or (k ∷ p) i 0 < length p
within_cons p k b h zero below = h
within_cons p k b h (suc i) below = b.within i (omega arith)

-- a list of n numbers below n with none twice has each of them
pub each_reached : (p : List ℕ) (k : ℕ) → IsBijection p → k < length p → (i : ℕ) × (i < length p) × (get_or p i 0 ≡ k)
each_reached p k b h =
    elim (find_at p k (length p)) [
      | inl found ↦ found
      | inr none ↦
          let apart : All (λ y. nat_eq k y ≡ false) p =
          λ i d below. ne_eqb k (get_or p i d) (λ e. none i below (sym (get_or_default p i d 0 below) ∙ sym e)) in
          let distinct : IsDistinct nat_eq (k ∷ p) =
          IsDistinct-cons nat_eq k p (recursion_from_All (λ y. nat_eq k y ≡ false) p apart) (distinct_lem p b.distinct) in
          let at_most : length (k ∷ p) ≤ length p =
          length-le_from_distinct_below (k ∷ p) (length p) distinct (λ x e.
          let found = Any-from_list_any (nat_eq x) (k ∷ p) e in
          let is : x ≡ get_or (k ∷ p) found.0 0 =
          eqb-true x found.1 found.4 ∙ sym found.3 ∙ get_or_default (k ∷ p) found.0 found.1 0 found.2 in
          let bound : get_or (k ∷ p) found.0 0 < length p = within_cons p k b h found.0 found.2 in
          omega arith) in
          absurd (omega arith)
    ]

-- the inverse is a permutation
pub inverse-IsBijection : (p q : List ℕ) → IsBijection p → IsInverse p q → IsBijection q
inverse-IsBijection p q b v = record {
  within = λ k below.
      let r = each_reached p k b (omega (arith, v.same_length)) in
      let is : get_or q k 0 ≡ r.0 = ap (λ x. get_or q x 0) (sym r.2) ∙ v.there r.0 r.1 in
      omega (arith, v.same_length, r.1);
  distinct = λ k l hk hl e.
      sym (v.back k (omega (arith, v.same_length))) ∙ ap (λ x. get_or p x 0) e ∙ v.back l (omega (arith, v.same_length));
}

-- facility i stands at location k if and only if location k has facility i
same_test : (p q : List ℕ) → IsInverse p q → (i k : ℕ) → i < length p → k < length p → nat_eq k (get_or p i 0) ≡ nat_eq i (get_or q k 0)
same_test p q v i k hi hk =
    elim (cases_eq k (get_or p i 0)) [
      | inl e ↦ eq-eqb k (get_or p i 0) e ∙ sym (eq-eqb i (get_or q k 0) (sym (v.there i hi) ∙ ap (λ x. get_or q x 0) (sym e)))
      | inr n ↦ ne_eqb k (get_or p i 0) n ∙ sym (ne_eqb i (get_or q k 0) (λ e. n (sym (v.back k hk) ∙ ap (λ x. get_or p x 0) (sym e))))
    ]

-- a sum over all numbers, taken in the order of a permutation
pub sum_to-reindex : (f : ℕ → ℤ) (p q : List ℕ) → IsBijection p → IsInverse p q → sum_to (λ i. f (get_or p i 0)) (length p) ≡ sum_to f (length p)
sum_to-reindex f p q b v =
    let n = length p in
    let spread : sum_to (λ i. f (get_or p i 0)) n ≡ sum_to (λ i. sum_to (only_at f (get_or p i 0)) n) n =
    sum_to-same (λ i. f (get_or p i 0)) (λ i. sum_to (only_at f (get_or p i 0)) n) n
    (λ i h. sym (sum_to-only_at f (get_or p i 0) n (b.within i h))) in
    let by_columns : (k : ℕ) → k < n → sum_to (λ i. only_at f (get_or p i 0) k) n ≡ f k =
    λ k hk.
    sum_to-same (λ i. only_at f (get_or p i 0) k) (only_at (λ i. f k) (get_or q k 0)) n
    (λ i hi. ap (λ t. cond t (f k) (pos 0)) (same_test p q v i k hi hk))
    ∙ sum_to-only_at (λ i. f k) (get_or q k 0) n
    (omega (arith, v.same_length, (inverse-IsBijection p q b v).within k (omega (arith, v.same_length)))) in
    spread
    ∙ sum_to-exchange (λ i. only_at f (get_or p i 0)) n n
    ∙ sum_to-same (λ k. sum_to (λ i. only_at f (get_or p i 0) k) n) f n by_columns

-- what sends each location back to its facility is the inverse
pub IsInverse-from_there : (p q : List ℕ) → IsBijection p → length q ≡ length p → ((i : ℕ) → i < length p → get_or q (get_or p i 0) 0 ≡ i) → IsInverse p q
IsInverse-from_there p q b same there = record {
  same_length = same;
  there = there;
  back = λ k below.
      let r = each_reached p k b below in
      ap (λ x. get_or p (get_or q x 0) 0) (sym r.2) ∙ ap (λ x. get_or p x 0) (there r.0 r.1) ∙ r.2;
}

-- the inverse of a permutation is a permutation
pub inverse-IsPerm : (p q : List ℕ) → IsPerm p → IsInverse p q → IsPerm q
inverse-IsPerm p q b v = record {
  bijection = inverse-IsBijection p q b.bijection v;
  positive = omega (arith, b.positive, v.same_length);
  small = omega (arith, b.small, v.same_length);
}

-- the place that was found, or 0
abbrev place_in : (p : List ℕ) (k n : ℕ) → ((i : ℕ) × (i < n) × (get_or p i 0 ≡ k)) ⊎ ((i : ℕ) → i < n → get_or p i 0 ≢ k) → ℕ
place_in p k n (inl found) = found.0
place_in p k n (inr none) = 0

place_of : List ℕ → ℕ → ℕ
place_of p k = place_in p k (length p) (find_at p k (length p))

place_of-reached : (p : List ℕ) (k : ℕ) → IsBijection p → k < length p → (place_of p k < length p) × (get_or p (place_of p k) 0 ≡ k)
unfolding place_of
place_of-reached p k b h =
    let n = length p in
    elim (find_at p k n) as (λ f. (place_in p k n f < n) × (get_or p (place_in p k n f) 0 ≡ k)) [
      | inl found ↦ (found.1, found.2)
      | inr none ↦ let r = each_reached p k b h in absurd (none r.0 r.1 r.2)
    ]

-- every permutation has an inverse
pub inverse_of : (p : List ℕ) → IsBijection p → (q : List ℕ) × IsInverse p q
inverse_of p b =
    let q = map (place_of p) (range_with_len 0 (length p)) in
    let at : (k : ℕ) → k < length p → get_or q k 0 ≡ place_of p k =
    λ k h. get_or-map-range_with_len (place_of p) 0 (length p) k k 0 h (omega arith) in (
      q,
      record {
        same_length = length-map-range_with_len (place_of p) 0 (length p);
        there = λ i h.
            let r = place_of-reached p (get_or p i 0) b (b.within i h) in
            at (get_or p i 0) (b.within i h) ∙ b.distinct (place_of p (get_or p i 0)) i r.0 h r.1;
        back = λ k h. ap (λ x. get_or p x 0) (at k h) ∙ (place_of-reached p k b h).1;
      },
    )

-- a sum over all numbers, taken in the order of any permutation
pub sum_to-in_order : (f : ℕ → ℤ) (p : List ℕ) → IsBijection p → sum_to (λ i. f (get_or p i 0)) (length p) ≡ sum_to f (length p)
sum_to-in_order f p b = let v = inverse_of p b in sum_to-reindex f p v.0 b v.1
