-- The entries of a row in order, and those of them that stand in other free columns.
use Rattle.std.proofs.Common.{◌≡◌, ◌≢◌, ℕ, zero, suc, ◌+◌, ◌-◌, ◌<◌, ◌≤◌, ◌++◌, ◌∷◌, [], Bool, true, false, cond, not, ◌&&◌, refl, sym, ◌∙◌, ap, ap₂, subst, arith, List, map, take, drop, reverse, length, get_or, set, inl, inr, append_assoc}
use Rattle.std.specs.Prelude.{ℤ, pos, ◌≤ℤ◌, nat_eq, remove, swap, filter}
use Rattle.std.specs.List.{All, AllPairs, range_with_len, list_any}
use Rattle.std.specs.List.Sorted.{IsPermutation, IsSortedByKey, IsStrictlyIncreasing}
use Rattle.std.proofs.lemmas.Int.{ints}
use Rattle.std.proofs.lemmas.Bool.{cases_eq, cases_lt, ne_eqb, eq-eqb, and_parts}
use Rattle.std.proofs.lemmas.Cmp.{int_cmp_total}
use Rattle.std.specs.Cmp.{int_ranks}
use Rattle.std.specs.Ordering.{int_cmp, is_lt}
use Rattle.std.proofs.lemmas.Simd.{map-map}
use Rattle.std.proofs.lemmas.List.{take-append-drop, drop_more, get_or-drop, get_or-map, set_at, set-set, set_comm, set-get_or, length-take-le, length-drop, length-append, length-map, length-reverse, get_or-reverse}
use Rattle.std.proofs.lemmas.List.Edits.{swap_is}
use Rattle.std.proofs.lemmas.List.Elements.{filter-append, All-map, All-from_get_or}
use Rattle.std.proofs.lemmas.List.FromFn.{length-range_with_len, get_or-range_with_len, length-map-range_with_len, map-range_with_len_more}
use Rattle.std.proofs.lemmas.List.Kept.{AllPairs-filter}
use Rattle.std.proofs.lemmas.List.Sorted.{IsPermutation-refl, IsPermutation-trans, IsPermutation-append_comm, IsPermutation-append_left, IsPermutation-append_right, IsPermutation-map, IsPermutation-keeps, All-permutation, length_permutation, sorted_far, ranks_by}
use Rattle.std.proofs.lemmas.Map.Keys.{sorted_from_strictly_increasing, below_from_sorted}
use Rattle.qap_cost.specs.Instance.{Problem}
use Rattle.qap_cost.proofs.Picks.{PicksBelow, PicksBelow-filter, place_from_any, any_from_place}
use Rattle.gilmore_lawler.specs.declared.ranking.Ranked.{Ranked}
use Rattle.gilmore_lawler.specs.declared.side.Side.{Side}
use Rattle.gilmore_lawler.specs.declared.side.Side.TheVariants.{Flow, Distance}
use Rattle.gilmore_lawler.specs.Order.{IsAscending, IsDescending}
use Rattle.gilmore_lawler.specs.Ranking.{IsRanking, entry_with_column, is_other, others_in, values_of}
use Rattle.gilmore_lawler.specs.ReducedMatrix.{others}
use Rattle.gilmore_lawler.specs.Table.{AllBelow, IsOrdered, matrix_of}
use Rattle.gilmore_lawler.proofs.Rearrangement.{not_below}
use Rattle.gilmore_lawler.proofs.Skips.{skip, unskip, skip-before, skip-after, skip-other, skip-within, skip-unskip, unskip-within, length-remove, get_or-remove}

-- a filter keeps a permutation

IsPermutation-exchanged : {X : Type 0} (xs between ys after : List X) → IsPermutation (xs ++ (between ++ (ys ++ after))) (ys ++ (between ++ (xs ++ after)))
IsPermutation-exchanged xs between ys after =
    let front = IsPermutation-append_comm xs (between ++ ys) in
    let back = IsPermutation-append_left xs (between ++ ys) (ys ++ between) (IsPermutation-append_comm between ys) in
    let whole : IsPermutation ((xs ++ (between ++ ys)) ++ after) (((ys ++ between) ++ xs) ++ after) =
    IsPermutation-append_left after (xs ++ (between ++ ys)) ((ys ++ between) ++ xs) (IsPermutation-trans (xs ++ (between ++ ys)) ((between ++ ys) ++ xs) ((ys ++ between) ++ xs) front back) in
    let left : (xs ++ (between ++ ys)) ++ after ≡ xs ++ (between ++ (ys ++ after)) = simp append_assoc in
    let right : ((ys ++ between) ++ xs) ++ after ≡ ys ++ (between ++ (xs ++ after)) = simp append_assoc in
    subst (λ l. IsPermutation l (ys ++ (between ++ (xs ++ after)))) left (subst (λ l. IsPermutation ((xs ++ (between ++ ys)) ++ after) l) right whole)

filter_parts : {X : Type 0} (p : X → Bool) (before : List X) (x : X) (between : List X) (y : X) (after : List X) → filter p (before ++ x ∷ (between ++ y ∷ after)) ≡ filter p before ++ (filter p (x ∷ []) ++ (filter p between ++ (filter p (y ∷ []) ++ filter p after)))
filter_parts p before x between y after =
    filter-append p before (x ∷ (between ++ y ∷ after))
    ∙ ap (λ l. filter p before ++ l) (filter-append p (x ∷ []) (between ++ y ∷ after)
    ∙ ap (λ l. filter p (x ∷ []) ++ l) (filter-append p between (y ∷ after)
    ∙ ap (λ l. filter p between ++ l) (filter-append p (y ∷ []) after)))

IsPermutation-filter_exchanged : {X : Type 0} (p : X → Bool) (before : List X) (x : X) (between : List X) (y : X) (after : List X) → IsPermutation (filter p (before ++ x ∷ (between ++ y ∷ after))) (filter p (before ++ y ∷ (between ++ x ∷ after)))
IsPermutation-filter_exchanged p before x between y after =
    let inner = IsPermutation-append_right (filter p before) (filter p (x ∷ []) ++ (filter p between ++ (filter p (y ∷ []) ++ filter p after))) (filter p (y ∷ []) ++ (filter p between ++ (filter p (x ∷ []) ++ filter p after)))
    (IsPermutation-exchanged (filter p (x ∷ [])) (filter p between) (filter p (y ∷ [])) (filter p after)) in
    rw (filter_parts p before x between y after, filter_parts p before y between x after) inner

-- a list in parts round two of its places
parts_is : {X : Type 0} (l : List X) (i j : ℕ) (d : X) → i < j → j < length l → l ≡ take i l ++ get_or l i d ∷ (take (j - (i + 1)) (drop (i + 1) l) ++ get_or l j d ∷ drop (j - (i + 1) + 1) (drop (i + 1) l))
parts_is l i j d h below =
    let rest = drop (i + 1) l in
    let k = j - (i + 1) in
    let count : length rest ≡ length l - (i + 1) = length-drop (i + 1) l in
    let at : get_or rest k d ≡ get_or l j d = get_or-drop (i + 1) l k d ∙ ap (λ t. get_or l t d) (omega arith) in
    let back : rest ≡ take k rest ++ get_or l j d ∷ drop (k + 1) rest =
    sym (take-append-drop k rest) ∙ ap (λ t. take k rest ++ t) (drop_more rest k d (omega (arith, count)) ∙ ap (λ y. y ∷ drop (k + 1) rest) at) in
    sym (take-append-drop i l) ∙ ap (λ t. take i l ++ t) (drop_more l i d (omega arith) ∙ ap (λ t. get_or l i d ∷ t) back)

swap_parts : {X : Type 0} (before : List X) (x : X) (between : List X) (y : X) (after : List X) (i j : ℕ) → length before ≡ i → i + 1 + length between ≡ j → set (set (before ++ x ∷ (between ++ y ∷ after)) i y) j x ≡ before ++ y ∷ (between ++ x ∷ after)
swap_parts before x between y after i j first second =
    let joined : before ++ y ∷ (between ++ y ∷ after) ≡ (before ++ y ∷ between) ++ y ∷ after = sym (append_assoc before (y ∷ between) (y ∷ after)) in
    ap (λ t. set t j x) (set_at before x (between ++ y ∷ after) y i first ∙ joined)
    ∙ set_at (before ++ y ∷ between) y after x j (omega (arith, length-append before (y ∷ between)))
    ∙ append_assoc before (y ∷ between) (x ∷ after)

IsPermutation-filter_apart : {X : Type 0} (d : X) (p : X → Bool) (l : List X) (i j : ℕ) → i < j → j < length l → IsPermutation (filter p l) (filter p (swap l i j))
IsPermutation-filter_apart d p l i j h below =
    let before = take i l in
    let between = take (j - (i + 1)) (drop (i + 1) l) in
    let after = drop (j - (i + 1) + 1) (drop (i + 1) l) in
    let x = get_or l i d in
    let y = get_or l j d in
    let whole = parts_is l i j d h below in
    let between_count = length-take-le (j - (i + 1)) (drop (i + 1) l) (omega (arith, length-drop (i + 1) l)) in
    let swapped : swap l i j ≡ before ++ y ∷ (between ++ x ∷ after) =
    sym (swap_is l i j d (omega arith) below)
    ∙ ap (λ t. set (set t i y) j x) whole
    ∙ swap_parts before x between y after i j (length-take-le i l (omega arith)) (omega (arith, between_count)) in
    subst (λ t. IsPermutation (filter p t) (filter p (swap l i j))) (sym whole)
    (subst (λ t. IsPermutation (filter p (before ++ x ∷ (between ++ y ∷ after))) (filter p t)) (sym swapped)
    (IsPermutation-filter_exchanged p before x between y after))

swap-same : {X : Type 0} (d : X) (l : List X) (i : ℕ) → i < length l → swap l i i ≡ l
swap-same d l i h = sym (swap_is l i i d h h) ∙ set-set l i (get_or l i d) (get_or l i d) ∙ set-get_or l i d

swap_comm : {X : Type 0} (d : X) (l : List X) (i j : ℕ) → i < length l → j < length l → i ≢ j → swap l i j ≡ swap l j i
swap_comm d l i j hi hj apart = sym (swap_is l i j d hi hj) ∙ set_comm l i j (get_or l j d) (get_or l i d) apart ∙ swap_is l j i d hj hi

IsPermutation-filter_swap : {X : Type 0} (d : X) (p : X → Bool) (l : List X) (i j : ℕ) → i < length l → j < length l → IsPermutation (filter p l) (filter p (swap l i j))
IsPermutation-filter_swap d p l i j hi hj =
    elim (cases_eq i j) [
      | inl same ↦
          let e : swap l i j ≡ l = ap (swap l i) (sym same) ∙ swap-same d l i hi in
          subst (λ t. IsPermutation (filter p l) (filter p t)) (sym e) (IsPermutation-refl (filter p l))
      | inr apart ↦ elim (cases_lt i j) [
        | inl less ↦ IsPermutation-filter_apart d p l i j less hj
        | inr more ↦ subst (λ t. IsPermutation (filter p l) (filter p t)) (sym (swap_comm d l i j hi hj apart)) (IsPermutation-filter_apart d p l j i (omega arith) hi)
      ]
    ]

IsPermutation-filter : {X : Type 0} (d : X) (p : X → Bool) (xs ys : List X) → IsPermutation xs ys → IsPermutation (filter p xs) (filter p ys)
IsPermutation-filter d p xs =
    IsPermutation-keeps xs (λ l. IsPermutation (filter p xs) (filter p l)) (IsPermutation-refl (filter p xs))
    (λ l i j hi hj h. IsPermutation-trans (filter p xs) (filter p l) (filter p (swap l i j)) h (IsPermutation-filter_swap d p l i j hi hj))

-- a filter of a map
filter-map_step : {X Y : Type 0} (f : Y → X) (y : Y) (b : Bool) (xs : List X) (ys : List Y) → xs ≡ map f ys → cond b (f y ∷ xs) xs ≡ map f (cond b (y ∷ ys) ys)
filter-map_step f y true xs ys e = ap (λ t. f y ∷ t) e
filter-map_step f y false xs ys e = e

filter-map : {X Y : Type 0} (f : Y → X) (p : X → Bool) (ys : List Y) → filter p (map f ys) ≡ map f (filter (λ y. p (f y)) ys)
filter-map f p [] = refl
filter-map f p (y ∷ ys) = filter-map_step f y (p (f y)) (filter p (map f ys)) (filter (λ y. p (f y)) ys) (filter-map f p ys)

-- two lists that rise and have the same numbers are one

-- each number is above all those before it
abbrev pub Rises : List ℕ → Type 0
Rises xs = (i j : ℕ) → i < j → j < length xs → get_or xs i 0 < get_or xs j 0

-- each number of xs is one of ys
abbrev pub IsWithin : List ℕ → List ℕ → Type 0
IsWithin xs ys = (i : ℕ) → i < length xs → (j : ℕ) × (j < length ys) × (get_or ys j 0 ≡ get_or xs i 0)

-- a number of a list that rises, but its first
found_later : (x y : ℕ) (xs ys : List ℕ) → x ≡ y → Rises (x ∷ xs) → (i : ℕ) → i < length xs → (j : ℕ) → j < length (y ∷ ys) → get_or (y ∷ ys) j 0 ≡ get_or xs i 0 → (k : ℕ) × (k < length ys) × (get_or ys k 0 ≡ get_or xs i 0)
found_later x y xs ys same up i h zero below e = absurd (omega (arith, up 0 (suc i) (omega arith) (omega arith)))
found_later x y xs ys same up i h (suc k) below e = (k, omega arith, e)

-- the first number of one is no later number of the other
first-le : (x y : ℕ) (ys : List ℕ) → Rises (y ∷ ys) → (j : ℕ) → j < length (y ∷ ys) → get_or (y ∷ ys) j 0 ≡ x → y ≤ x
first-le x y ys up zero below e = omega arith
first-le x y ys up (suc j) below e = omega (arith, up 0 (suc j) (omega arith) below)

-- two lists that rise and have the same numbers are one
pub same_rising : (xs ys : List ℕ) → Rises xs → Rises ys → IsWithin xs ys → IsWithin ys xs → xs ≡ ys
same_rising [] [] up_x up_y there back = refl
same_rising [] (y ∷ ys) up_x up_y there back = absurd (omega (arith, (back 0 (omega arith)).1))
same_rising (x ∷ xs) [] up_x up_y there back = absurd (omega (arith, (there 0 (omega arith)).1))
same_rising (x ∷ xs) (y ∷ ys) up_x up_y there back =
    let r = there 0 (omega arith) in
    let s = back 0 (omega arith) in
    let below = first-le x y ys up_y r.0 r.1 r.2 in
    let above = first-le y x xs up_x s.0 s.1 s.2 in
    let same : x ≡ y = omega arith in
    ap₂ ◌∷◌ same (same_rising xs ys
    (λ i j h b. up_x (suc i) (suc j) (omega arith) (omega arith))
    (λ i j h b. up_y (suc i) (suc j) (omega arith) (omega arith))
    (λ i h. let t = there (suc i) (omega arith) in found_later x y xs ys same up_x i h t.0 t.1 t.2)
    (λ i h. let t = back (suc i) (omega arith) in found_later y x ys xs (sym same) up_y i h t.0 t.1 t.2))

same_picks : (p : ℕ → Bool) (n : ℕ) (xs ys : List ℕ) → PicksBelow p n xs → PicksBelow p n ys → xs ≡ ys
same_picks p n xs ys x y =
    same_rising xs ys x.ascending y.ascending
    (λ i h. y.all (get_or xs i 0) (x.within i h) (x.passes i h))
    (λ i h. x.all (get_or ys i 0) (y.within i h) (y.passes i h))

-- the places of the others rise
pub skip-rises : (r i j : ℕ) → i < j → skip r i < skip r j
skip-rises r i j h =
    elim (cases_lt i r) [
      | inl a ↦ elim (cases_lt j r) [
        | inl b ↦ omega (arith, skip-before r i a, skip-before r j b)
        | inr b ↦ omega (arith, skip-before r i a, skip-after r j b)
      ]
      | inr a ↦ omega (arith, skip-after r i a, skip-after r j (omega arith))
    ]

-- the test for a free column other than this one
is_other_column : List Bool → ℕ → ℕ → Bool
is_other_column flags own k = not (nat_eq k own) && get_or flags k false

-- the flags tell which columns are free
pub record Flags (free : List ℕ) (flags : List Bool) : Type 0 where
  pub tells : (k : ℕ) → k < 256 → get_or flags k false ≡ list_any (nat_eq k) free

other_passes : (flags : List Bool) (own k : ℕ) → k ≢ own → get_or flags k false ≡ true → is_other_column flags own k ≡ true
unfolding is_other_column
other_passes flags own k apart free = rw (ne_eqb k own apart) free

other_apart : (flags : List Bool) (own k : ℕ) → is_other_column flags own k ≡ true → k ≢ own
unfolding is_other_column
other_apart flags own k e same =
    let equal : nat_eq k own ≡ true = eq-eqb k own same in
    cc

other_free : (flags : List Bool) (own k : ℕ) → is_other_column flags own k ≡ true → get_or flags k false ≡ true
unfolding is_other_column
other_free flags own k e = (and_parts (not (nat_eq k own)) (get_or flags k false) e).1

PicksBelow-remove : (n : ℕ) (free : List ℕ) (r : ℕ) (flags : List Bool) → n ≤ 256 → r < length free → IsStrictlyIncreasing free → AllBelow n free → Flags free flags → PicksBelow (is_other_column flags (get_or free r 0)) n (remove free r)
PicksBelow-remove n free r flags small h up below f =
    let own = get_or free r 0 in
    let count = length-remove free r h in
    let rises : Rises free = λ i j before inside. below_from_sorted free i j 0 (sorted_from_strictly_increasing free up) before inside in
    let inside : (i : ℕ) → i < length (remove free r) → skip r i < length free = λ i hi. omega (arith, count, skip-within r i (length free - 1) (omega (arith, count))) in
    let apart : (s : ℕ) → s < length free → s ≢ r → get_or free s 0 ≢ own =
    λ s hs other e.
    elim (cases_lt s r) [
      | inl less ↦ omega (arith, rises s r less h)
      | inr more ↦ omega (arith, rises r s (omega arith) hs)
    ] in
    record {
      within = λ i hi. omega (arith, get_or-remove free r i 0 h, below.each (skip r i) (inside i hi));
      passes = λ i hi.
          let s = skip r i in
          let free_one : get_or flags (get_or free s 0) false ≡ true =
          f.tells (get_or free s 0) (omega (arith, below.each s (inside i hi))) ∙ any_from_place free (get_or free s 0) s (inside i hi) refl in
          ap (is_other_column flags own) (get_or-remove free r i 0 h)
          ∙ other_passes flags own (get_or free s 0) (apart s (inside i hi) (skip-other r i)) free_one;
      all = λ k hk e.
          let found = place_from_any free k (sym (f.tells k (omega arith)) ∙ other_free flags own k e) in
          let other : found.0 ≢ r = λ same. other_apart flags own k e (sym found.2 ∙ ap (λ s. get_or free s 0) same) in
          let place = unskip r found.0 in (
            place,
            omega (arith, count, unskip-within r found.0 (length free - 1) (omega arith) (omega (arith, found.1)) other),
            get_or-remove free r place 0 h ∙ ap (λ s. get_or free s 0) (skip-unskip r found.0 other) ∙ found.2,
          );
      ascending = λ i j before hj.
          omega (arith, get_or-remove free r i 0 h, get_or-remove free r j 0 h, rises (skip r i) (skip r j) (skip-rises r i j before) (inside j hj));
    }

-- the row at the other free columns is what the walk over its ranking leaves, in another order
no_entry : Ranked
no_entry = record { value = pos 0; column = 0 }

-- of a facility's row in order, the entries in the free columns other than its own are those with the other free ones
pub IsPermutation-others_in : (I : Problem) (side : Side) (free : List ℕ) (r : ℕ) (flags : List Bool) (row : List Ranked) → I.size ≤ 256 → r < length free → IsStrictlyIncreasing free → AllBelow I.size free → Flags free flags → IsRanking I side (get_or free r 0) row → IsPermutation (others I.size (matrix_of I side) free r) (others_in flags (get_or free r 0) row)
unfolding is_other_column
IsPermutation-others_in I side free r flags row small h up below f ranking =
    let n = I.size in
    let own = get_or free r 0 in
    let matrix : List ℤ = matrix_of I side in
    let pair : ℕ → Ranked = entry_with_column n matrix own in
    let columns = range_with_len 0 n in
    let test = is_other flags own in
    let filtered : IsPermutation (filter test (map pair columns)) (filter test row) = IsPermutation-filter no_entry test (map pair columns) row ranking.moved in
    let mapped : filter test (map pair columns) ≡ map pair (filter (is_other_column flags own) columns) = filter-map pair test columns in
    let picked : filter (is_other_column flags own) columns ≡ remove free r =
    same_picks (is_other_column flags own) n (filter (is_other_column flags own) columns) (remove free r)
    (PicksBelow-filter (is_other_column flags own) n) (PicksBelow-remove n free r flags small h up below f) in
    let same : values_of (filter test (map pair columns)) ≡ others n matrix free r =
    ap values_of (mapped ∙ ap (map pair) picked) ∙ map-map (λ (x : Ranked). x.value) pair (remove free r) in
    subst (λ l. IsPermutation l (others_in flags own row)) same (IsPermutation-map (λ (x : Ranked). x.value) (filter test (map pair columns)) (filter test row) filtered)

-- a filter keeps the order
get_or-values : (row : List Ranked) (i : ℕ) → i < length (values_of row) → (d : Ranked) → get_or (values_of row) i (pos 0) ≡ (get_or row i d).value
get_or-values row i h d = get_or-map (λ (x : Ranked). x.value) row i d (pos 0) (omega (arith, length-map row (λ (x : Ranked). x.value)))

kept_in_order : (R : ℤ → ℤ → Type 0) (p : Ranked → Bool) (row : List Ranked)
    → ((i j : ℕ) → i < j → j < length (values_of row) → R (get_or (values_of row) i (pos 0)) (get_or (values_of row) j (pos 0)))
    → (i j : ℕ) → i < j → j < length (values_of (filter p row)) → R (get_or (values_of (filter p row)) i (pos 0)) (get_or (values_of (filter p row)) j (pos 0))
kept_in_order R p row h i j before below =
    let kept = filter p row in
    let count : length (values_of row) ≡ length row = length-map row (λ (x : Ranked). x.value) in
    let kept_count : length (values_of kept) ≡ length kept = length-map kept (λ (x : Ranked). x.value) in
    let all : AllPairs (λ (x y : Ranked). R x.value y.value) row =
    λ k l d first inside.
    subst (λ (z : ℤ). R (get_or row k d).value z) (get_or-values row l (omega (arith, count)) d)
    (subst (λ (z : ℤ). R z (get_or (values_of row) l (pos 0))) (get_or-values row k (omega (arith, count)) d) (h k l first (omega (arith, count)))) in
    let here = AllPairs-filter (λ (x y : Ranked). R x.value y.value) p row all i j no_entry before (omega (arith, kept_count)) in
    rw (get_or-values kept i (omega arith) no_entry, get_or-values kept j below no_entry) here

-- a row in order is still in order once some of its entries are left out
pub IsOrdered-filter : (side : Side) (p : Ranked → Bool) (row : List Ranked) → IsOrdered side (values_of row) → IsOrdered side (values_of (filter p row))
IsOrdered-filter Flow p row up = record {
  rises = λ i j h below.
      elim (cases_eq i j) [
        | inl same ↦ omega (arith, ints, ap (λ k. get_or (values_of (filter p row)) k (pos 0)) same)
        | inr apart ↦ kept_in_order (λ x y. x ≤ℤ y) p row (λ k l first inside. up.rises k l (omega arith) inside) i j (omega arith) below
      ];
}
IsOrdered-filter Distance p row down = record {
  falls = λ i j h below.
      elim (cases_eq i j) [
        | inl same ↦ omega (arith, ints, ap (λ k. get_or (values_of (filter p row)) k (pos 0)) same)
        | inr apart ↦ kept_in_order (λ x y. y ≤ℤ x) p row (λ k l first inside. down.falls k l (omega arith) inside) i j (omega arith) below
      ];
}

-- what a sort by value ensures
pub IsAscending-from_keys : (row : List Ranked) → IsSortedByKey (λ (x : Ranked). x.value) int_cmp row → IsAscending (values_of row)
IsAscending-from_keys row sorted = record {
  rises = λ i j h below.
      let count : length (values_of row) ≡ length row = length-map row (λ (x : Ranked). x.value) in
      let x = (get_or row j no_entry).value in
      let y = (get_or row i no_entry).value in
      let last : is_lt (int_cmp x y) ≡ false =
      sorted_far (λ (a b : Ranked). is_lt (int_cmp a.value b.value)) (ranks_by int_cmp_total (λ (a : Ranked). a.value)) row sorted i j no_entry h (omega (arith, count)) in
      rw (get_or-values row i (omega arith) no_entry, get_or-values row j below no_entry) (not_below x y (int_cmp x y) (int_ranks x y) last);
}

-- a row whose entries ascend, reversed, is one whose entries descend
pub IsDescending-values_reverse : (row : List Ranked) → IsAscending (values_of row) → IsDescending (values_of (reverse row))
IsDescending-values_reverse row up =
    record {
      falls = λ i j h below.
          let count : length (values_of row) ≡ length row = length-map row (λ (x : Ranked). x.value) in
          let back_count : length (values_of (reverse row)) ≡ length (reverse row) = length-map (reverse row) (λ (x : Ranked). x.value) in
          let same = length-reverse row in
          let at : (k : ℕ) → k < length row → get_or (values_of (reverse row)) k (pos 0) ≡ get_or (values_of row) (length row - 1 - k) (pos 0) =
          λ k hk.
          get_or-values (reverse row) k (omega (arith, back_count, same)) no_entry
          ∙ ap (λ (x : Ranked). x.value) (get_or-reverse row k no_entry hk)
          ∙ sym (get_or-values row (length row - 1 - k) (omega (arith, count)) no_entry) in
          let order = up.rises (length row - 1 - j) (length row - 1 - i) (omega (arith, count, back_count, same)) (omega (arith, count, back_count, same)) in
          rw (at i (omega (arith, back_count, same)), at j (omega (arith, back_count, same))) order;
    }

-- each column of a ranking is below the size
pub columns_below : (I : Problem) (side : Side) (i : ℕ) (row : List Ranked) → I.size ≤ 256 → IsRanking I side i row → All (λ (x : Ranked). x.column < 256) row
columns_below I side i row small ranking =
    let columns = range_with_len 0 I.size in
    let all : All (λ (k : ℕ). k < 256) columns =
    All-from_get_or (λ (k : ℕ). k < 256) columns 0
    (λ k h. omega (arith, length-range_with_len 0 I.size, get_or-range_with_len 0 I.size k 0 (omega (arith, length-range_with_len 0 I.size)))) in
    All-permutation (λ (x : Ranked). x.column < 256) (map (entry_with_column I.size (matrix_of I side) i) columns) row ranking.moved
    (All-map (λ (x : Ranked). x.column < 256) (entry_with_column I.size (matrix_of I side) i) columns all)

-- one entry more of a row
pub entries_more : (f : ℕ → Ranked) (old now new : List Ranked) (x : Ranked) (j : ℕ) → now ≡ old ++ map f (range_with_len 0 j) → new ≡ now ++ x ∷ [] → x ≡ f j → new ≡ old ++ map f (range_with_len 0 (j + 1))
entries_more f old now new x j before pushed is =
    pushed
    ∙ ap₂ (λ xs y. xs ++ y ∷ []) before is
    ∙ append_assoc old (map f (range_with_len 0 j)) (f j ∷ [])
    ∙ ap (λ xs. old ++ xs) (sym (map-range_with_len_more f 0 j j (omega arith)))

-- a row in order has an entry for each column
pub length-ranking : (I : Problem) (side : Side) (i : ℕ) (row : List Ranked) → IsRanking I side i row → length row ≡ I.size
length-ranking I side i row ranking =
    length_permutation (map (entry_with_column I.size (matrix_of I side) i) (range_with_len 0 I.size)) row ranking.moved
    ∙ length-map-range_with_len (entry_with_column I.size (matrix_of I side) i) 0 I.size

-- a number with its column
abbrev pub with_column : ℕ → ℤ → Ranked
with_column j x = record { value = x; column = j }
