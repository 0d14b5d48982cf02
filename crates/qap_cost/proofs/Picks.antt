-- The numbers below a bound that pass a test, in order.
use Rattle.std.proofs.Common.{◌≡◌, ◌≢◌, ℕ, zero, suc, ◌+◌, ◌<◌, Bool, true, false, cond, List, [], ◌∷◌, ◌++◌, length, get_or, refl, sym, ◌∙◌, ap, subst, inl, inr, arith, add-one, append-nil}
use Rattle.std.specs.List.{filter, range_with_len, list_any, IsDistinct}
use Rattle.std.specs.Prelude.{nat_eq}
use Rattle.std.proofs.lemmas.List.{map-id, get_or_append_left, get_or_push, length_push, get_or_default}
use Rattle.std.proofs.lemmas.List.FromFn.{filter_of_map_range_with_len_more}
use Rattle.std.proofs.lemmas.List.Folds.{list_any_at, Any-from_list_any}
use Rattle.std.proofs.lemmas.Map.Keys.{IsDistinct-from_apart}
use Rattle.std.proofs.lemmas.Bool.{cases_eq, cases_Bool, cond-true, cond-false, ne_eqb, eq-eqb, eqb-true, both_ways}

-- xs has each number below n that passes the test, once and in order
pub record PicksBelow (p : ℕ → Bool) (n : ℕ) (xs : List ℕ) : Type 0 where
  pub within : (i : ℕ) → i < length xs → get_or xs i 0 < n
  pub passes : (i : ℕ) → i < length xs → p (get_or xs i 0) ≡ true
  pub all : (k : ℕ) → k < n → p k ≡ true → (i : ℕ) × (i < length xs) × (get_or xs i 0 ≡ k)
  pub ascending : (i j : ℕ) → i < j → j < length xs → get_or xs i 0 < get_or xs j 0

PicksBelow-none : (p : ℕ → Bool) → PicksBelow p 0 []
PicksBelow-none p = record {
  within = λ i h. absurd (omega arith);
  passes = λ i h. absurd (omega arith);
  all = λ k h e. absurd (omega arith);
  ascending = λ i j h below. absurd (omega arith);
}

PicksBelow-skip : (p : ℕ → Bool) (n : ℕ) (xs : List ℕ) → PicksBelow p n xs → p n ≡ false → PicksBelow p (n + 1) xs
PicksBelow-skip p n xs h fails = record {
  within = λ i below. omega (arith, h.within i below);
  passes = h.passes;
  all = λ k below e.
      elim (cases_eq k n) [
        | inl same ↦ absurd (both_ways (p n) fails (ap p (sym same) ∙ e))
        | inr other ↦ h.all k (omega arith) e
      ];
  ascending = h.ascending;
}

PicksBelow-take : (p : ℕ → Bool) (n : ℕ) (xs : List ℕ) → PicksBelow p n xs → p n ≡ true → PicksBelow p (n + 1) (xs ++ n ∷ [])
PicksBelow-take p n xs h passes =
    let old : (i : ℕ) → i < length xs → get_or (xs ++ n ∷ []) i 0 ≡ get_or xs i 0 = λ i below. get_or_append_left xs (n ∷ []) 0 i below in
    let last : get_or (xs ++ n ∷ []) (length xs) 0 ≡ n = get_or_push xs n 0 (length xs) refl in
    let more : length (xs ++ n ∷ []) ≡ length xs + 1 = length_push xs n in
    record {
      within = λ i below.
          elim (cases_eq i (length xs)) [
            | inl same ↦ omega (arith, ap (λ j. get_or (xs ++ n ∷ []) j 0) same)
            | inr other ↦ omega (arith, old i (omega arith), h.within i (omega arith))
          ];
      passes = λ i below.
          elim (cases_eq i (length xs)) [
            | inl same ↦ ap p (ap (λ j. get_or (xs ++ n ∷ []) j 0) same ∙ last) ∙ passes
            | inr other ↦ ap p (old i (omega arith)) ∙ h.passes i (omega arith)
          ];
      all = λ k below e.
          elim (cases_eq k n) [
            | inl same ↦ (length xs, omega arith, last ∙ sym same)
            | inr other ↦ let r = h.all k (omega arith) e in (r.0, omega (arith, r.1), old r.0 r.1 ∙ r.2)
          ];
      ascending = λ i j before below.
          let first : get_or (xs ++ n ∷ []) i 0 ≡ get_or xs i 0 = old i (omega arith) in
          elim (cases_eq j (length xs)) [
            | inl same ↦ omega (arith, ap (λ l. get_or (xs ++ n ∷ []) l 0) same, h.within i (omega arith))
            | inr other ↦ omega (arith, old j (omega arith), h.ascending i j before (omega arith))
          ];
    }

-- one number more
pub filter-range_more : (p : ℕ → Bool) (n : ℕ) → filter p (range_with_len 0 (n + 1)) ≡ filter p (range_with_len 0 n) ++ cond (p n) (n ∷ []) []
filter-range_more p n =
    ap (filter p) (sym (map-id (range_with_len 0 (n + 1))))
    ∙ filter_of_map_range_with_len_more p (λ k. k) 0 n n (omega arith)
    ∙ ap (λ xs. filter p xs ++ cond (p n) (n ∷ []) []) (map-id (range_with_len 0 n))

-- where n passes the test, the numbers below n + 1 that pass are those below n and n itself
pub filter-range_take : (p : ℕ → Bool) (n : ℕ) → p n ≡ true → filter p (range_with_len 0 (n + 1)) ≡ filter p (range_with_len 0 n) ++ n ∷ []
filter-range_take p n e = filter-range_more p n ∙ ap (λ c. filter p (range_with_len 0 n) ++ c) (cond-true (p n) (n ∷ []) [] e)

-- where n fails the test, the numbers below n + 1 that pass are those below n
pub filter-range_skip : (p : ℕ → Bool) (n : ℕ) → p n ≡ false → filter p (range_with_len 0 (n + 1)) ≡ filter p (range_with_len 0 n)
filter-range_skip p n e =
    filter-range_more p n
    ∙ ap (λ c. filter p (range_with_len 0 n) ++ c) (cond-false (p n) (n ∷ []) [] e)
    ∙ append-nil (filter p (range_with_len 0 n))

-- filtering the numbers below n gives each that passes the test, once and in order
pub PicksBelow-filter : (p : ℕ → Bool) (n : ℕ) → PicksBelow p n (filter p (range_with_len 0 n))
PicksBelow-filter p zero = PicksBelow-none p
PicksBelow-filter p (suc n) =
    let ih : PicksBelow p n (filter p (range_with_len 0 n)) = PicksBelow-filter p n in
    elim (cases_Bool (p n)) [
      | inl takes ↦ subst (λ m. PicksBelow p m (filter p (range_with_len 0 m))) (add-one n)
          (subst (PicksBelow p (n + 1)) (sym (filter-range_take p n takes)) (PicksBelow-take p n (filter p (range_with_len 0 n)) ih takes))
      | inr skips ↦ subst (λ m. PicksBelow p m (filter p (range_with_len 0 m))) (add-one n)
          (subst (PicksBelow p (n + 1)) (sym (filter-range_skip p n skips)) (PicksBelow-skip p n (filter p (range_with_len 0 n)) ih skips))
    ]

-- a list has a number where the test says so
pub place_from_any : (xs : List ℕ) (k : ℕ) → list_any (nat_eq k) xs ≡ true → (i : ℕ) × (i < length xs) × (get_or xs i 0 ≡ k)
place_from_any xs k e =
    let found = Any-from_list_any (nat_eq k) xs e in
    (found.0, found.2, get_or_default xs found.0 0 found.1 found.2 ∙ found.3 ∙ sym (eqb-true k found.1 found.4))

-- a number that stands at some place of a list is found there
pub any_from_place : (xs : List ℕ) (k i : ℕ) → i < length xs → get_or xs i 0 ≡ k → list_any (nat_eq k) xs ≡ true
any_from_place xs k i h e = list_any_at (nat_eq k) xs i 0 h (eq-eqb k (get_or xs i 0) (sym e))

-- a list whose numbers differ from place to place has none twice
pub IsDistinct-from_places : (xs : List ℕ) → ((i j : ℕ) → i < j → j < length xs → get_or xs i 0 ≢ get_or xs j 0) → IsDistinct nat_eq xs
IsDistinct-from_places xs h =
    IsDistinct-from_apart nat_eq xs (λ i j d before below.
    ne_eqb (get_or xs i d) (get_or xs j d) (λ e.
    h i j before below (get_or_default xs i 0 d (omega arith) ∙ e ∙ get_or_default xs j d 0 below)))
