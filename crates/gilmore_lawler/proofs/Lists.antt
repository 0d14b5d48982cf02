-- Permutations made from functions, and lists in another order.
use Rattle.std.proofs.Common.{◌≡◌, ◌≢◌, ℕ, ◌<◌, cond, refl, sym, ◌∙◌, ap, arith, nat_eq, List, map, length, get_or, inl, inr}
use Rattle.std.specs.Prelude.{ℤ, pos, swap}
use Rattle.std.specs.List.{range_with_len}
use Rattle.std.specs.List.Sorted.{IsPermutation}
use Rattle.std.proofs.lemmas.List.FromFn.{length-map-range_with_len, get_or-map-range_with_len}
use Rattle.std.proofs.lemmas.List.Edits.{swapped_from_swap}
use Rattle.std.proofs.lemmas.List.Sorted.{IsPermutation-keeps, IsPermutation-swap, length_permutation}
use Rattle.std.proofs.lemmas.Bool.{cases_eq, cond-true, cond-false, eq-eqb, ne_eqb}
use Rattle.qap_cost.specs.Bijection.{IsBijection}
use Rattle.gilmore_lawler.specs.Order.{IsArranged}

-- the list f 0, .., f (n - 1)
pub list_of : (ℕ → ℕ) → ℕ → List ℕ
list_of f n = map f (range_with_len 0 n)

-- the list of f at n numbers has n numbers
pub length-list_of : (f : ℕ → ℕ) (n : ℕ) → length (list_of f n) ≡ n
unfolding list_of
length-list_of f n = length-map-range_with_len f 0 n

-- at place i it has f(i)
pub get_or-list_of : (f : ℕ → ℕ) (n i : ℕ) → i < n → get_or (list_of f n) i 0 ≡ f i
unfolding list_of
get_or-list_of f n i h = get_or-map-range_with_len f 0 n i i 0 h (omega arith)

-- a function that keeps the numbers below n there, and keeps them apart, is a permutation of them
pub IsBijection-list_of : (f : ℕ → ℕ) (n : ℕ) → ((i : ℕ) → i < n → f i < n) → ((i j : ℕ) → i < n → j < n → f i ≡ f j → i ≡ j) → IsBijection (list_of f n)
IsBijection-list_of f n within distinct =
    let count = length-list_of f n in
    record {
      within = λ i h.
          let here : i < n = omega (arith, count, h) in
          omega (arith, get_or-list_of f n i here, within i here, count);
      distinct = λ i j hi hj e.
          let hi' : i < n = omega (arith, count, hi) in
          let hj' : j < n = omega (arith, count, hj) in
          distinct i j hi' hj' (sym (get_or-list_of f n i hi') ∙ e ∙ get_or-list_of f n j hj');
    }

-- first q, then p
pub composed : List ℕ → List ℕ → List ℕ
composed p q = list_of (λ i. get_or p (get_or q i 0) 0) (length q)

-- the composed list is as long as q
pub length-composed : (p q : List ℕ) → length (composed p q) ≡ length q
unfolding composed
length-composed p q = length-list_of (λ i. get_or p (get_or q i 0) 0) (length q)

-- at place i it has what p has at q(i)
pub get_or-composed : (p q : List ℕ) (i : ℕ) → i < length q → get_or (composed p q) i 0 ≡ get_or p (get_or q i 0) 0
unfolding composed
get_or-composed p q i h = get_or-list_of (λ i. get_or p (get_or q i 0) 0) (length q) i h

-- one permutation after another is a permutation
pub IsBijection-composed : (p q : List ℕ) → IsBijection p → IsBijection q → length p ≡ length q → IsBijection (composed p q)
unfolding composed
IsBijection-composed p q bp bq same =
    let inside : (i : ℕ) → i < length q → get_or q i 0 < length p = λ i h. omega (arith, bq.within i h, same) in
    IsBijection-list_of (λ i. get_or p (get_or q i 0) 0) (length q)
    (λ i h. omega (arith, bp.within (get_or q i 0) (inside i h), same))
    (λ i j hi hj e. bq.distinct i j hi hj (bp.distinct (get_or q i 0) (get_or q j 0) (inside i hi) (inside j hj) e))

-- i and j in each other's place
exchanged_at : ℕ → ℕ → ℕ → ℕ
exchanged_at i j t = cond (nat_eq t i) j (cond (nat_eq t j) i t)

exchanged_at-left : (i j t : ℕ) → t ≡ i → exchanged_at i j t ≡ j
unfolding exchanged_at
exchanged_at-left i j t e = cond-true (nat_eq t i) j (cond (nat_eq t j) i t) (eq-eqb t i e)

exchanged_at-right : (i j t : ℕ) → t ≢ i → t ≡ j → exchanged_at i j t ≡ i
unfolding exchanged_at
exchanged_at-right i j t n e =
    cond-false (nat_eq t i) j (cond (nat_eq t j) i t) (ne_eqb t i n) ∙ cond-true (nat_eq t j) i t (eq-eqb t j e)

exchanged_at-other : (i j t : ℕ) → t ≢ i → t ≢ j → exchanged_at i j t ≡ t
unfolding exchanged_at
exchanged_at-other i j t m n =
    cond-false (nat_eq t i) j (cond (nat_eq t j) i t) (ne_eqb t i m) ∙ cond-false (nat_eq t j) i t (ne_eqb t j n)

exchanged_at-within : (i j t n : ℕ) → i < n → j < n → t < n → exchanged_at i j t < n
exchanged_at-within i j t n hi hj ht =
    elim (cases_eq t i) [
      | inl e ↦ omega (arith, exchanged_at-left i j t e)
      | inr m ↦ elim (cases_eq t j) [
        | inl e ↦ omega (arith, exchanged_at-right i j t m e)
        | inr o ↦ omega (arith, exchanged_at-other i j t m o)
      ]
    ]

exchanged_at-twice : (i j t : ℕ) → exchanged_at i j (exchanged_at i j t) ≡ t
exchanged_at-twice i j t =
    elim (cases_eq t i) [
      | inl e ↦ elim (cases_eq j i) [
        | inl same ↦ exchanged_at-left i j (exchanged_at i j t) (exchanged_at-left i j t e ∙ same) ∙ same ∙ sym e
        | inr other ↦
            exchanged_at-right i j (exchanged_at i j t) (λ h. other (sym (exchanged_at-left i j t e) ∙ h)) (exchanged_at-left i j t e) ∙ sym e
      ]
      | inr m ↦ elim (cases_eq t j) [
        | inl e ↦ exchanged_at-left i j (exchanged_at i j t) (exchanged_at-right i j t m e) ∙ sym e
        | inr o ↦ ap (exchanged_at i j) (exchanged_at-other i j t m o) ∙ exchanged_at-other i j t m o
      ]
    ]

IsArranged-refl : (xs : List ℤ) → IsArranged xs xs
IsArranged-refl xs = record {
  order = list_of (λ i. i) (length xs);
  bijection = IsBijection-list_of (λ i. i) (length xs) (λ i h. h) (λ i j hi hj e. e);
  count = length-list_of (λ i. i) (length xs);
  same_length = refl;
  reads = λ i h. ap (λ k. get_or xs k (pos 0)) (sym (get_or-list_of (λ i. i) (length xs) i h));
}

reads_exchanged : (xs : List ℤ) (i j t : ℕ) → i < length xs → j < length xs → get_or (swap xs i j) t (pos 0) ≡ get_or xs (exchanged_at i j t) (pos 0)
reads_exchanged xs i j t hi hj =
    let s = swapped_from_swap xs (swap xs i j) i j (pos 0) hi hj refl in
    let at : ℕ → ℤ = λ k. get_or xs k (pos 0) in
    let new : ℕ → ℤ = λ k. get_or (swap xs i j) k (pos 0) in
    elim (cases_eq t i) [
      | inl e ↦ ap new e ∙ s.0 ∙ ap at (sym (exchanged_at-left i j t e))
      | inr m ↦ elim (cases_eq t j) [
        | inl e ↦ ap new e ∙ s.1 ∙ ap at (sym (exchanged_at-right i j t m e))
        | inr o ↦ s.2 t m o ∙ ap at (sym (exchanged_at-other i j t m o))
      ]
    ]

IsArranged-swap : (xs ys : List ℤ) (i j : ℕ) → i < length ys → j < length ys → IsArranged xs ys → IsArranged xs (swap ys i j)
IsArranged-swap xs ys i j hi hj a =
    let n = length xs in
    let f : ℕ → ℕ = λ t. get_or a.order (exchanged_at i j t) 0 in
    let i_below : i < n = omega (arith, a.same_length) in
    let j_below : j < n = omega (arith, a.same_length) in
    let moved : (t : ℕ) → t < n → exchanged_at i j t < n = λ t h. exchanged_at-within i j t n i_below j_below h in
    let bound : (t : ℕ) → t < n → f t < n =
    λ t h. omega (arith, moved t h, a.count, a.bijection.within (exchanged_at i j t) (omega (arith, moved t h, a.count))) in
    let apart : (s t : ℕ) → s < n → t < n → f s ≡ f t → s ≡ t =
    λ s t hs ht e.
    sym (exchanged_at-twice i j s)
    ∙ ap (exchanged_at i j) (a.bijection.distinct (exchanged_at i j s) (exchanged_at i j t) (omega (arith, moved s hs, a.count)) (omega (arith, moved t ht, a.count)) e)
    ∙ exchanged_at-twice i j t in
    record {
      order = list_of f n;
      bijection = IsBijection-list_of f n bound apart;
      count = length-list_of f n;
      same_length = length_permutation ys (swap ys i j) (IsPermutation-swap ys (swap ys i j) i j hi hj refl) ∙ a.same_length;
      reads = λ t h.
          reads_exchanged ys i j t hi hj
          ∙ a.reads (exchanged_at i j t) (moved t h)
          ∙ ap (λ k. get_or xs k (pos 0)) (sym (get_or-list_of f n t h));
    }

-- what a sort ensures gives the order
pub IsArranged-from_permutation : (xs ys : List ℤ) → IsPermutation xs ys → IsArranged xs ys
IsArranged-from_permutation xs =
    IsPermutation-keeps xs (IsArranged xs) (IsArranged-refl xs) (λ ys i j hi hj a. IsArranged-swap xs ys i j hi hj a)
