-- Every order of the numbers below n is among the ones that are listed, and only these are.
use Rattle.std.proofs.Common.{◌≡◌, ℕ, zero, suc, ◌+◌, ◌-◌, ◌<◌, ◌≤◌, List, [], ◌∷◌, ◌++◌, length, get_or, map, take, drop, refl, sym, ◌∙◌, ap, ap₂, subst, inl, inr, arith, length-append, length-take, length-drop, drop-cons}
use Rattle.std.specs.Prelude.{◌⊎◌, flat_map}
use Rattle.std.specs.List.{remove}
use Rattle.std.proofs.lemmas.List.{take-append-drop}
use Rattle.std.proofs.lemmas.Bool.{cases_eq}
use Rattle.itertools.specs.Odometer.{numbers, ways}
use Rattle.itertools.specs.Pool.{unranked}
use Rattle.qap_cost.specs.Bijection.{IsBijection}

-- ---- membership

-- y is an item of the list
abbrev pub IsIn : {A : Type 0} → List A → A → Type 0
IsIn [] y = ⊥
IsIn (x ∷ xs) y = (x ≡ y) ⊎ IsIn xs y

IsIn-append_left : {A : Type 0} (xs ys : List A) (y : A) → IsIn xs y → IsIn (xs ++ ys) y
IsIn-append_left [] ys y h = absurd h
IsIn-append_left (x ∷ xs) ys y (inl e) = inl e
IsIn-append_left (x ∷ xs) ys y (inr h) = inr (IsIn-append_left xs ys y h)

IsIn-append_right : {A : Type 0} (xs ys : List A) (y : A) → IsIn ys y → IsIn (xs ++ ys) y
IsIn-append_right [] ys y h = h
IsIn-append_right (x ∷ xs) ys y h = inr (IsIn-append_right xs ys y h)

IsIn-append_cases : {A : Type 0} (xs ys : List A) (y : A) → IsIn (xs ++ ys) y → IsIn xs y ⊎ IsIn ys y
IsIn-append_cases [] ys y h = inr h
IsIn-append_cases (x ∷ xs) ys y (inl e) = inl (inl e)
IsIn-append_cases (x ∷ xs) ys y (inr h) =
    elim (IsIn-append_cases xs ys y h) [ inl a ↦ inl (inr a) | inr b ↦ inr b ]

IsIn-map : {A B : Type 0} (f : A → B) (xs : List A) (x : A) → IsIn xs x → IsIn (map f xs) (f x)
IsIn-map f [] x h = absurd h
IsIn-map f (y ∷ xs) x (inl e) = inl (ap f e)
IsIn-map f (y ∷ xs) x (inr h) = inr (IsIn-map f xs x h)

IsIn-map_from : {A B : Type 0} (f : A → B) (xs : List A) (y : B) → IsIn (map f xs) y → (x : A) × IsIn xs x × (f x ≡ y)
IsIn-map_from f [] y h = absurd h
IsIn-map_from f (x ∷ xs) y (inl e) = (x, inl refl, e)
IsIn-map_from f (x ∷ xs) y (inr h) = let r = IsIn-map_from f xs y h in (r.0, inr r.1, r.2)

IsIn-flat_map : {A B : Type 0} (f : A → List B) (xs : List A) (x : A) (y : B) → IsIn xs x → IsIn (f x) y → IsIn (flat_map f xs) y
IsIn-flat_map f [] x y h k = absurd h
IsIn-flat_map f (z ∷ xs) x y (inl e) k = IsIn-append_left (f z) (flat_map f xs) y (subst (λ w. IsIn (f w) y) (sym e) k)
IsIn-flat_map f (z ∷ xs) x y (inr h) k = IsIn-append_right (f z) (flat_map f xs) y (IsIn-flat_map f xs x y h k)

IsIn-flat_map_from : {A B : Type 0} (f : A → List B) (xs : List A) (y : B) → IsIn (flat_map f xs) y → (x : A) × IsIn xs x × IsIn (f x) y
IsIn-flat_map_from f [] y h = absurd h
IsIn-flat_map_from f (z ∷ xs) y h =
    elim (IsIn-append_cases (f z) (flat_map f xs) y h) [
      | inl a ↦ (z, inl refl, a)
      | inr b ↦ let r = IsIn-flat_map_from f xs y b in (r.0, inr r.1, r.2)
    ]

IsIn-numbers : (a n k : ℕ) → a ≤ k → k < a + n → IsIn (numbers a n) k
IsIn-numbers a zero k h below = absurd (omega arith)
IsIn-numbers a (suc n) k h below =
    elim (cases_eq a k) [ inl e ↦ inl e | inr other ↦ inr (IsIn-numbers (a + 1) n k (omega arith) (omega arith)) ]

IsIn-numbers_from : (a n k : ℕ) → IsIn (numbers a n) k → (a ≤ k) × (k < a + n)
IsIn-numbers_from a zero k h = absurd h
IsIn-numbers_from a (suc n) k (inl e) = (omega arith, omega arith)
IsIn-numbers_from a (suc n) k (inr h) = let r = IsIn-numbers_from (a + 1) n k h in (omega (arith, r.0), omega (arith, r.1))

-- a number that is in a list stands at some place of it
pub IsIn-place : (xs : List ℕ) (y : ℕ) → IsIn xs y → (i : ℕ) × (i < length xs) × (get_or xs i 0 ≡ y)
IsIn-place [] y h = absurd h
IsIn-place (x ∷ xs) y (inl e) = (zero, omega arith, e)
IsIn-place (x ∷ xs) y (inr h) = let r = IsIn-place xs y h in (suc r.0, omega (arith, r.1), r.2)

-- the number at a place of a list is in the list
pub IsIn-get_or : (xs : List ℕ) (i : ℕ) → i < length xs → IsIn xs (get_or xs i 0)
IsIn-get_or [] i h = absurd (omega arith)
IsIn-get_or (x ∷ xs) zero h = inl refl
IsIn-get_or (x ∷ xs) (suc i) h = inr (IsIn-get_or xs i (omega arith))

-- ---- lists of ranks

-- each rank is below the count of what is left
abbrev pub RanksFit : ℕ → List ℕ → Type 0
RanksFit m [] = Unit {0}
RanksFit m (d ∷ ds) = (d < m) × RanksFit (m - 1) ds

-- the lists of m ranks that may follow the ranks q, for a pool of n numbers from which each takes one out
abbrev pub rank_ways : ℕ → ℕ → List ℕ → List (List ℕ)
rank_ways n m q = ways (λ _. 0) (λ r. n - length r) m q

left_after : (n d : ℕ) (q : List ℕ) → n - length (q ++ d ∷ []) ≡ n - length q - 1
left_after n d q = omega (arith, length-append q (d ∷ []))

-- a list of m ranks, each below the count of what is left, is among those listed
pub IsIn-rank_ways : (n m : ℕ) (q ds : List ℕ) → length ds ≡ m → RanksFit (n - length q) ds → IsIn (rank_ways n m q) ds
IsIn-rank_ways n zero q [] e f = inl refl
IsIn-rank_ways n zero q (d ∷ ds) e f = absurd (omega arith)
IsIn-rank_ways n (suc m) q [] e f = absurd (omega arith)
IsIn-rank_ways n (suc m) q (d ∷ ds) e f =
    let here : d < n - length q = f.0 in
    IsIn-flat_map (λ k. map (λ ks. k ∷ ks) (rank_ways n m (q ++ k ∷ []))) (numbers 0 (n - length q - 0)) d (d ∷ ds)
    (IsIn-numbers 0 (n - length q - 0) d (omega arith) (omega arith))
    (IsIn-map (λ ks. d ∷ ks) (rank_ways n m (q ++ d ∷ [])) ds
    (IsIn-rank_ways n m (q ++ d ∷ []) ds (omega arith) (subst (λ l. RanksFit l ds) (sym (left_after n d q)) f.1)))

-- each list among those listed has m ranks, each below the count of what is left
pub IsIn-rank_ways_from : (n m : ℕ) (q ds : List ℕ) → IsIn (rank_ways n m q) ds → (length ds ≡ m) × RanksFit (n - length q) ds
IsIn-rank_ways_from n zero q ds (inl e) = (sym (ap length e), subst (RanksFit (n - length q)) e tt)
IsIn-rank_ways_from n zero q ds (inr h) = absurd h
IsIn-rank_ways_from n (suc m) q ds h =
    let r = IsIn-flat_map_from (λ k. map (λ ks. k ∷ ks) (rank_ways n m (q ++ k ∷ []))) (numbers 0 (n - length q - 0)) ds h in
    let s = IsIn-map_from (λ ks. r.0 ∷ ks) (rank_ways n m (q ++ r.0 ∷ [])) ds r.2 in
    let t = IsIn-rank_ways_from n m (q ++ r.0 ∷ []) s.0 s.1 in
    let below = IsIn-numbers_from 0 (n - length q - 0) r.0 r.1 in (
      sym (ap length s.2) ∙ ap suc t.0,
      subst (RanksFit (n - length q)) s.2 (omega (arith, below.1), subst (λ l. RanksFit l s.0) (left_after n r.0 q) t.1),
    )

-- ---- taking numbers out of a list one by one

-- no number stands twice
abbrev pub Apart : List ℕ → Type 0
Apart [] = Unit {0}
Apart (x ∷ xs) = (IsIn xs x → ⊥) × Apart xs

split_at : (xs : List ℕ) (d : ℕ) → d < length xs → xs ≡ take d xs ++ get_or xs d 0 ∷ drop (suc d) xs
split_at xs d h = sym (take-append-drop d xs) ∙ ap (λ ys. take d xs ++ ys) (drop-cons xs d 0 h)

length-remove_one : (xs : List ℕ) (d : ℕ) → d < length xs → length (remove xs d) ≡ length xs - 1
length-remove_one xs d h = omega (arith, length-append (take d xs) (drop (suc d) xs), length-take d xs, length-drop (suc d) xs)

-- what is in the list without one number is in the list
IsIn-without : (pre post : List ℕ) (x y : ℕ) → IsIn (pre ++ post) y → IsIn (pre ++ x ∷ post) y
IsIn-without pre post x y h =
    elim (IsIn-append_cases pre post y h) [
      | inl a ↦ IsIn-append_left pre (x ∷ post) y a
      | inr b ↦ IsIn-append_right pre (x ∷ post) y (inr b)
    ]

-- and the other way, but for that number
IsIn-still : (pre post : List ℕ) (x y : ℕ) → IsIn (pre ++ x ∷ post) y → (x ≡ y → ⊥) → IsIn (pre ++ post) y
IsIn-still pre post x y h other =
    elim (IsIn-append_cases pre (x ∷ post) y h) [
      | inl a ↦ IsIn-append_left pre post y a
      | inr b ↦ elim b [ inl e ↦ absurd (other e) | inr later ↦ IsIn-append_right pre post y later ]
    ]

Apart-without : (pre post : List ℕ) (x : ℕ) → Apart (pre ++ x ∷ post) → Apart (pre ++ post) × (IsIn (pre ++ post) x → ⊥)
Apart-without [] post x h = (h.1, h.0)
Apart-without (y ∷ pre) post x h =
    let r = Apart-without pre post x h.1 in (
      (λ there. h.0 (IsIn-without pre post x y there), r.0),
      λ there. elim there [ inl e ↦ h.0 (IsIn-append_right pre (x ∷ post) y (inl (sym e))) | inr later ↦ r.1 later ],
    )

-- the ranks that give a list, where each of its numbers is there to be taken
pub ranks_of : (p free : List ℕ) → Apart p → ((y : ℕ) → IsIn p y → IsIn free y) → (ds : List ℕ) × (unranked free ds ≡ p) × RanksFit (length free) ds × (length ds ≡ length p)
ranks_of [] free a within = ([], refl, tt, refl)
ranks_of (x ∷ p) free a within =
    let place = IsIn-place free x (within x (inl refl)) in
    let d = place.0 in
    let rest = ranks_of p (remove free d) a.1 (λ y there.
    IsIn-still (take d free) (drop (suc d) free) (get_or free d 0) y
    (subst (λ ys. IsIn ys y) (split_at free d place.1) (within y (inr there)))
    (λ e. a.0 (subst (IsIn p) (sym e ∙ place.2) there))) in (
      d ∷ rest.0,
      ap₂ (λ y ys. y ∷ ys) place.2 rest.1,
      (place.1, subst (λ m. RanksFit m rest.0) (length-remove_one free d place.1) rest.2),
      ap suc rest.3,
    )

-- what ranks give has no number twice, and each of its numbers was there
pub unranked-Apart : (ds free : List ℕ) → Apart free → RanksFit (length free) ds → Apart (unranked free ds) × ((y : ℕ) → IsIn (unranked free ds) y → IsIn free y)
unranked-Apart [] free a f = (tt, λ y h. absurd h)
unranked-Apart (d ∷ ds) free a f =
    let x = get_or free d 0 in
    let pre = take d free in
    let post = drop (suc d) free in
    let split : free ≡ pre ++ x ∷ post = split_at free d f.0 in
    let out : Apart (pre ++ post) × (IsIn (pre ++ post) x → ⊥) = Apart-without pre post x (subst Apart split a) in
    let rest = unranked-Apart ds (remove free d) out.0 (subst (λ m. RanksFit m ds) (sym (length-remove_one free d f.0)) f.1) in (
      (λ there. out.1 (rest.1 x there), rest.0),
      λ y there. elim there [
        | inl e ↦ subst (IsIn free) e (IsIn-get_or free d f.0)
        | inr later ↦ subst (λ ys. IsIn ys y) (sym split) (IsIn-without pre post x y (rest.1 y later))
      ],
    )

-- ---- orders of the numbers below n

numbers-Apart : (a n : ℕ) → Apart (numbers a n)
numbers-Apart a zero = tt
numbers-Apart a (suc n) = (λ h. let r = IsIn-numbers_from (a + 1) n a h in absurd (omega (arith, r.0)), numbers-Apart (a + 1) n)

-- there are n numbers from a on
pub length-numbers : (a n : ℕ) → length (numbers a n) ≡ n
length-numbers a zero = refl
length-numbers a (suc n) = ap suc (length-numbers (a + 1) n)

Apart-from_places : (xs : List ℕ) → ((i j : ℕ) → i < length xs → j < length xs → get_or xs i 0 ≡ get_or xs j 0 → i ≡ j) → Apart xs
Apart-from_places [] h = tt
Apart-from_places (x ∷ xs) h = (
  λ there.
      let r = IsIn-place xs x there in
      let far : zero ≡ suc r.0 = h zero (suc r.0) (omega arith) (omega (arith, r.1)) (sym r.2) in
      absurd (omega arith),
  Apart-from_places xs (λ i j hi hj e. let s : suc i ≡ suc j = h (suc i) (suc j) (omega arith) (omega arith) e in omega arith),
)

places_from_Apart : (xs : List ℕ) → Apart xs → (i j : ℕ) → i < length xs → j < length xs → get_or xs i 0 ≡ get_or xs j 0 → i ≡ j
places_from_Apart [] a i j hi hj e = absurd (omega arith)
places_from_Apart (x ∷ xs) a zero zero hi hj e = refl
places_from_Apart (x ∷ xs) a zero (suc j) hi hj e = absurd (a.0 (subst (IsIn xs) (sym e) (IsIn-get_or xs j (omega arith))))
places_from_Apart (x ∷ xs) a (suc i) zero hi hj e = absurd (a.0 (subst (IsIn xs) e (IsIn-get_or xs i (omega arith))))
places_from_Apart (x ∷ xs) a (suc i) (suc j) hi hj e = ap suc (places_from_Apart xs a.1 i j (omega arith) (omega arith) e)

all_left : (n : ℕ) → n ≡ n - 0
all_left n = omega arith

-- every permutation is listed
pub each_listed : (n : ℕ) (p : List ℕ) → IsBijection p → length p ≡ n → (ds : List ℕ) × IsIn (rank_ways n n []) ds × (unranked (numbers 0 n) ds ≡ p)
each_listed n p b same =
    let r = ranks_of p (numbers 0 n) (Apart-from_places p b.distinct) (λ y there.
    let place = IsIn-place p y there in
    IsIn-numbers 0 n y (omega arith) (omega (arith, place.2, b.within place.0 place.1))) in
    (r.0, IsIn-rank_ways n n [] r.0 (r.3 ∙ same) (subst (λ m. RanksFit m r.0) (length-numbers 0 n ∙ all_left n) r.2), r.1)

-- ranks give one number each
pub length-unranked : (free ds : List ℕ) → length (unranked free ds) ≡ length ds
length-unranked free [] = refl
length-unranked free (d ∷ ds) = ap suc (length-unranked (remove free d) ds)

-- what is listed is a permutation
pub listed-IsBijection : (n : ℕ) (ds : List ℕ) → IsIn (rank_ways n n []) ds → IsBijection (unranked (numbers 0 n) ds) × (length (unranked (numbers 0 n) ds) ≡ n)
listed-IsBijection n ds h =
    let p = unranked (numbers 0 n) ds in
    let fit = IsIn-rank_ways_from n n [] ds h in
    let count : length p ≡ n = length-unranked (numbers 0 n) ds ∙ fit.0 in
    let r = unranked-Apart ds (numbers 0 n) (numbers-Apart 0 n) (subst (λ m. RanksFit m ds) (sym (length-numbers 0 n ∙ all_left n)) fit.1) in (
      record {
        within = λ i below. omega (arith, count, (IsIn-numbers_from 0 n (get_or p i 0) (r.1 (get_or p i 0) (IsIn-get_or p i below))).1);
        distinct = places_from_Apart p r.0;
      },
      count,
    )

-- the numbers in their own order are a permutation
pub numbers-IsBijection : (n : ℕ) → IsBijection (numbers 0 n)
numbers-IsBijection n = record {
  within = λ i below. omega (arith, length-numbers 0 n, (IsIn-numbers_from 0 n (get_or (numbers 0 n) i 0) (IsIn-get_or (numbers 0 n) i below)).1);
  distinct = places_from_Apart (numbers 0 n) (numbers-Apart 0 n);
}

-- each number that ranks give was there to be taken
pub unranked-below : (n : ℕ) (ds : List ℕ) → IsIn (rank_ways n n []) ds → (i : ℕ) → i < length (unranked (numbers 0 n) ds) → get_or (unranked (numbers 0 n) ds) i 0 < n
unranked-below n ds h i below =
    let is = listed-IsBijection n ds h in
    omega (arith, is.1, is.0.within i below)
