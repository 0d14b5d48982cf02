-- The free numbers, and the permutations that complete a node.
use Rattle.std.proofs.Common.{◌≡◌, ◌≢◌, ℕ, ◌+◌, ◌-◌, ◌<◌, ◌≤◌, Bool, true, false, List, [], ◌∷◌, ◌++◌, length, get_or, refl, sym, ◌∙◌, ap, ap₂, subst, inl, inr, arith}
use Rattle.std.specs.Prelude.{nat_eq, ℤ, ◌*ℤ◌}
use Rattle.std.specs.List.{filter, range_with_len, list_any}
use Rattle.std.proofs.lemmas.List.{get_or_append_left, get_or-append_right, get_or_push, length_push, length-append}
use Rattle.std.proofs.lemmas.List.FromFn.{length-range_with_len}
use Rattle.std.proofs.lemmas.List.Filters.{length-filter_both}
use Rattle.std.proofs.lemmas.Bool.{cases_lt, not-true, not_from_false, false_from_ne_true}
use Rattle.std.proofs.lemmas.Bool.Decides.{same_from_decides}
use Rattle.std.specs.Cmp.{nat_eq_equiv}
use Rattle.std.proofs.lemmas.Map.Made.{length-from_same_keys}
use Rattle.qap_cost.specs.Bijection.{AreDifferent, IsBijection}
use Rattle.qap_cost.specs.Instance.{Problem}
use Rattle.qap_cost.specs.Placement.{Placement, IsPlacement, IsFree, IsFreeFacility, IsFreeLocation, ListsFree, is_untaken, free_below, placing, placed_pair_cost}
use Rattle.qap_cost.specs.Row.{IsRow, product_between}
use Rattle.qap_cost.specs.Sum.{sum_to}
use Rattle.qap_cost.proofs.Sums.{sum_to-same}
use Rattle.qap_cost.proofs.Picks.{PicksBelow, PicksBelow-filter, place_from_any, any_from_place, IsDistinct-from_places}

-- a number passes the test if and only if it isn't taken
pub untaken_from_test : (taken : List ℕ) (k : ℕ) → is_untaken taken k ≡ true → (i : ℕ) → i < length taken → get_or taken i 0 ≢ k
untaken_from_test taken k e i h same =
    let none : list_any (nat_eq k) taken ≡ false = not-true (list_any (nat_eq k) taken) e in
    let some : list_any (nat_eq k) taken ≡ true = any_from_place taken k i h same in
    cc

-- a number that isn't taken passes the test for it
pub test_from_untaken : (taken : List ℕ) (k : ℕ) → ((i : ℕ) → i < length taken → get_or taken i 0 ≢ k) → is_untaken taken k ≡ true
test_from_untaken taken k h =
    not_from_false (list_any (nat_eq k) taken) (false_from_ne_true (list_any (nat_eq k) taken) (λ e.
    let r = place_from_any taken k e in
    h r.0 r.1 r.2))

-- the numbers that are taken, counted among all
count_taken : (n : ℕ) (xs : List ℕ) → AreDifferent n xs → length (filter (λ k. list_any (nat_eq k) xs) (range_with_len 0 n)) ≡ length xs
count_taken n xs h =
    let test : ℕ → Bool = λ k. list_any (nat_eq k) xs in
    let taken = filter test (range_with_len 0 n) in
    let picks : PicksBelow test n taken = PicksBelow-filter test n in
    length-from_same_keys nat_eq_equiv taken xs
    (IsDistinct-from_places taken (λ i j before below e. let less = picks.ascending i j before below in omega arith))
    (IsDistinct-from_places xs (λ i j before below e. let same = h.distinct i j (omega arith) below e in omega arith))
    (λ q. same_from_decides {P = list_any (nat_eq q) xs ≡ true} (list_any (nat_eq q) taken) (list_any (nat_eq q) xs) (
      λ e. let r = place_from_any taken q e in subst (λ k. test k ≡ true) r.2 (picks.passes r.0 r.1),
      λ e.
          let r = place_from_any xs q e in
          let s = picks.all q (subst (λ k. k < n) r.2 (h.within r.0 r.1)) e in
          any_from_place taken q s.0 s.1 s.2,
    )
    (λ e. e, λ e. e))

-- the free numbers are just those that are listed
pub ListsFree-free_below : (n : ℕ) (xs : List ℕ) → AreDifferent n xs → ListsFree n xs (free_below n xs)
ListsFree-free_below n xs h =
    let picks : PicksBelow (is_untaken xs) n (free_below n xs) = PicksBelow-filter (is_untaken xs) n in
    record {
      count =
          let both = length-filter_both (λ k. list_any (nat_eq k) xs) (is_untaken xs) (λ k. refl) (range_with_len 0 n) in
          omega (arith, both, count_taken n xs h, length-range_with_len 0 n);
      each = λ i below. record { within = picks.within i below; untaken = untaken_from_test xs (get_or (free_below n xs) i 0) (picks.passes i below) };
      all = λ k free. picks.all k free.within (test_from_untaken xs k free.untaken);
      ascending = picks.ascending;
    }

-- different numbers below n are at most n
pub AreDifferent-length : (n : ℕ) (xs : List ℕ) → AreDifferent n xs → length xs ≤ n
AreDifferent-length n xs h = omega (arith, (ListsFree-free_below n xs h).count)

-- one more different number
pub AreDifferent-more : (n k : ℕ) (xs : List ℕ) → AreDifferent n xs → IsFree n xs k → AreDifferent n (xs ++ k ∷ [])
AreDifferent-more n k xs h free =
    let m = length xs in
    let count : length (xs ++ k ∷ []) ≡ m + 1 = length_push xs k in
    let front : (i : ℕ) → i < m → get_or (xs ++ k ∷ []) i 0 ≡ get_or xs i 0 = λ i below. get_or_append_left xs (k ∷ []) 0 i below in
    let last : (i : ℕ) → m ≤ i → i < length (xs ++ k ∷ []) → i ≡ m = λ i past below. omega (arith, count) in
    let at_last : (i : ℕ) → m ≤ i → i < length (xs ++ k ∷ []) → get_or (xs ++ k ∷ []) i 0 ≡ k =
    λ i past below. ap (λ j. get_or (xs ++ k ∷ []) j 0) (last i past below) ∙ get_or_push xs k 0 m refl in
    record {
      within = λ i below.
          elim (cases_lt i m) [
            | inl before ↦ omega (arith, front i before, h.within i before)
            | inr past ↦ omega (arith, at_last i past below, free.within)
          ];
      distinct = λ i j hi hj e.
          elim (cases_lt i m) [
            | inl a ↦ elim (cases_lt j m) [
              | inl b ↦ h.distinct i j a b (sym (front i a) ∙ e ∙ front j b)
              | inr b ↦ absurd (free.untaken i a (sym (front i a) ∙ e ∙ at_last j b hj))
            ]
            | inr a ↦ elim (cases_lt j m) [
              | inl b ↦ absurd (free.untaken j b (sym (front j b) ∙ sym e ∙ at_last i a hi))
              | inr b ↦ last i a hi ∙ sym (last j b hj)
            ]
          ];
    }

-- no more facilities are placed than there are
pub IsPlacement-depth : (x : Placement) → IsPlacement x → length x.facilities ≤ x.size
IsPlacement-depth x h = AreDifferent-length x.size x.facilities h.facilities

-- a child of a node is a node
pub IsPlacement-placing : (x : Placement) (f k : ℕ) → IsPlacement x → IsFreeFacility x f → IsFreeLocation x k → IsPlacement (placing x f k)
IsPlacement-placing x f k h facility location = record {
  positive = h.positive;
  small = h.small;
  paired = length_push x.places k ∙ ap (λ n. n + 1) h.paired ∙ sym (length_push x.facilities f);
  facilities = AreDifferent-more x.size f x.facilities h.facilities facility;
  places = AreDifferent-more x.size k x.places h.places location;
}

-- those taken and the free ones are all numbers
pub IsBijection-free_below : (n : ℕ) (xs : List ℕ) → AreDifferent n xs → IsBijection (xs ++ free_below n xs)
IsBijection-free_below n xs h =
    let free = free_below n xs in
    let d = length xs in
    let lists = ListsFree-free_below n xs h in
    let count : length (xs ++ free) ≡ n = omega (arith, length-append xs free, lists.count) in
    let early : (i : ℕ) → i < d → get_or (xs ++ free) i 0 ≡ get_or xs i 0 = λ i below. get_or_append_left xs free 0 i below in
    let late : (i : ℕ) → d ≤ i → get_or (xs ++ free) i 0 ≡ get_or free (i - d) 0 = λ i past. get_or-append_right xs free d i 0 refl past in
    let apart : (i j : ℕ) → i < length free → j < length free → get_or free i 0 ≡ get_or free j 0 → i ≡ j =
    λ i j hi hj e.
    elim (cases_lt i j) [
      | inl less ↦ absurd (omega (arith, lists.ascending i j less hj, e))
      | inr rest ↦ elim (cases_lt j i) [
        | inl less ↦ absurd (omega (arith, lists.ascending j i less hi, e))
        | inr same ↦ omega arith
      ]
    ] in
    record {
      within = λ i below.
          elim (cases_lt i d) [
            | inl less ↦ omega (arith, count, early i less, h.within i less)
            | inr more ↦ omega (arith, count, late i more, (lists.each (i - d) (omega (arith, count, lists.count))).within)
          ];
      distinct = λ i j hi hj e.
          elim (cases_lt i d) [
            | inl a ↦ elim (cases_lt j d) [
              | inl b ↦ h.distinct i j a b (sym (early i a) ∙ e ∙ early j b)
              | inr b ↦ absurd ((lists.each (j - d) (omega (arith, count, lists.count))).untaken i a (sym (early i a) ∙ e ∙ late j b))
            ]
            | inr a ↦ elim (cases_lt j d) [
              | inl b ↦ absurd ((lists.each (i - d) (omega (arith, count, lists.count))).untaken j b (sym (early j b) ∙ sym e ∙ late i a))
              | inr b ↦
                  let same : i - d ≡ j - d =
                  apart (i - d) (j - d) (omega (arith, count, lists.count)) (omega (arith, count, lists.count)) (sym (late i a) ∙ e ∙ late j b) in
                  omega (arith, same)
            ]
          ];
    }

-- what the facility that was placed as number s costs together with each placed facility
abbrev pub placed_row : Problem → Placement → ℕ → ℤ
placed_row I x s = sum_to (placed_pair_cost I x s) (length x.facilities)

-- the products of parts of two rows are what a placed facility costs with each other one
pub products-placed_row : (I : Problem) (x : Placement) (s : ℕ) (xs ys : List ℤ) → IsPlacement x → I.size ≡ x.size → IsRow I.size I.a (get_or x.facilities s 0) xs → IsRow I.size I.b (get_or x.places s 0) ys
    → sum_to (product_between xs ys x.facilities x.places) (length x.facilities) ≡ placed_row I x s
products-placed_row I x s xs ys h size a b =
    sum_to-same (product_between xs ys x.facilities x.places) (placed_pair_cost I x s) (length x.facilities) (λ t below.
    ap₂ ◌*ℤ◌ (a.entries (get_or x.facilities t 0) (omega (arith, size, h.facilities.within t below))) (b.entries (get_or x.places t 0) (omega (arith, size, h.paired, h.places.within t (omega (arith, h.paired))))))
