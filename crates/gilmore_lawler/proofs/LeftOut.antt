-- A row in order without one of its numbers, and the rows of a child's free locations, which are its parent's but one.
use Rattle.std.proofs.Common.{◌≡◌, ◌≢◌, ℕ, suc, ◌+◌, ◌-◌, ◌<◌, ◌≤◌, ◌++◌, ◌∷◌, [], refl, sym, ◌∙◌, ap, ap₂, subst, arith, List, take, set, length, get_or, inl, inr, append_assoc, ◌⊎◌, Ordering, Less, Equal, Greater}
use Rattle.std.specs.Prelude.{ℤ, pos, ◌≤ℤ◌, ◌<ℤ◌, remove}
use Rattle.std.specs.Cmp.{int_ranks}
use Rattle.std.specs.Ordering.{int_cmp, MatchOrdering}
use Rattle.std.proofs.lemmas.Int.{ints}
use Rattle.std.proofs.lemmas.Bool.{cases_lt, cases_eq}
use Rattle.std.proofs.lemmas.List.{ext_get_or, length-append, length-map, take_more, take_more_set, get_or_append_left, get_or_push}
use Rattle.qap_cost.specs.Bijection.{AreDifferent}
use Rattle.qap_cost.specs.Placement.{ListsFree, free_below}
use Rattle.qap_cost.specs.Instance.{entry}
use Rattle.qap_cost.proofs.Bijections.{inverse_of, inverse-IsBijection}
use Rattle.qap_cost.proofs.Placements.{ListsFree-free_below, AreDifferent-more}
use Rattle.gilmore_lawler.specs.Order.{IsArranged, IsDescending}
use Rattle.gilmore_lawler.specs.ReducedMatrix.{others}
use Rattle.gilmore_lawler.proofs.Lists.{list_of, length-list_of, get_or-list_of, IsBijection-list_of}
use Rattle.gilmore_lawler.proofs.Rankings.{same_rising, skip-rises}
use Rattle.gilmore_lawler.proofs.Skips.{skip, unskip, skip-before, skip-after, skip-other, skip-injective, skip-skip, skip-within, skip-unskip, unskip-within, length-remove, get_or-remove, get_or-map_remove}

-- one number left out of a list, and out of another order of it
pub IsArranged-remove : (xs ys : List ℤ) (s : ℕ) → IsArranged xs ys → s < length xs → (t : ℕ) × (t < length ys) × (get_or ys t (pos 0) ≡ get_or xs s (pos 0)) × IsArranged (remove xs s) (remove ys t)
IsArranged-remove xs ys s a h =
    let order = a.order in
    let inverse = inverse_of order a.bijection in
    let inv = inverse.0 in
    let inv_bijection = inverse-IsBijection order inv a.bijection inverse.1 in
    let t = get_or inv s 0 in
    let t_below : t < length xs = omega (arith, inv_bijection.within s (omega (arith, inverse.1.same_length, a.count)), inverse.1.same_length, a.count) in
    let t_inside : t < length ys = omega (arith, t_below, a.same_length) in
    let at : get_or order t 0 ≡ s = inverse.1.back s (omega (arith, a.count)) in
    let n = length (remove xs s) in
    let count : n + 1 ≡ length xs = length-remove xs s h in
    let count_y : length (remove ys t) + 1 ≡ length ys = length-remove ys t t_inside in
    let read : ℕ → ℕ = λ j. get_or order (skip t j) 0 in
    let inside : (j : ℕ) → j < n → skip t j < length order = λ j hj. omega (arith, skip-within t j n hj, count, a.count) in
    let read_below : (j : ℕ) → j < n → read j < length xs = λ j hj. omega (arith, a.bijection.within (skip t j) (inside j hj), a.count) in
    let apart : (j : ℕ) → j < n → read j ≢ s = λ j hj e.
    skip-other t j (a.bijection.distinct (skip t j) t (inside j hj) (omega (arith, t_below, a.count)) (e ∙ sym at)) in
    let f : ℕ → ℕ = λ j. unskip s (read j) in
    let f_below : (j : ℕ) → j < n → f j < n = λ j hj. unskip-within s (read j) n (omega (arith, count)) (omega (arith, read_below j hj, count)) (apart j hj) in
    let f_apart : (i j : ℕ) → i < n → j < n → f i ≡ f j → i ≡ j = λ i j hi hj e.
    skip-injective t i j (a.bijection.distinct (skip t i) (skip t j) (inside i hi) (inside j hj)
    (sym (skip-unskip s (read i) (apart i hi)) ∙ ap (skip s) e ∙ skip-unskip s (read j) (apart j hj))) in (
      t,
      t_inside,
      a.reads t t_below ∙ ap (λ k. get_or xs k (pos 0)) at,
      record {
        order = list_of f n;
        bijection = IsBijection-list_of f n f_below f_apart;
        count = length-list_of f n;
        same_length = omega (arith, count, count_y, a.same_length);
        reads = λ j hj.
            get_or-remove ys t j (pos 0) t_inside
            ∙ a.reads (skip t j) (omega (arith, inside j hj, a.count))
            ∙ ap (λ k. get_or xs k (pos 0)) (sym (skip-unskip s (read j) (apart j hj)))
            ∙ sym (get_or-remove xs s (f j) (pos 0) h)
            ∙ ap (λ k. get_or (remove xs s) k (pos 0)) (sym (get_or-list_of f n j hj));
      },
    )

-- a list that falls still falls without one of its numbers
pub IsDescending-remove : (xs : List ℤ) (t : ℕ) → t < length xs → IsDescending xs → IsDescending (remove xs t)
IsDescending-remove xs t h down = record {
  falls = λ i j ij below.
      let count = length-remove xs t h in
      let inside : skip t j < length xs = omega (arith, count, skip-within t j (length (remove xs t)) below) in
      let order : skip t i ≤ skip t j = elim (cases_eq i j) [
        | inl same ↦ omega (arith, ap (skip t) same)
        | inr other ↦ omega (arith, skip-rises t i j (omega arith))
      ] in
      rw (get_or-remove xs t i (pos 0) h, get_or-remove xs t j (pos 0) h) (down.falls (skip t i) (skip t j) order inside);
}

-- what the walk over a list that falls writes in place j, where a number of this value is left out
pub left_out-at : (xs : List ℤ) (t j : ℕ) (gone : ℤ) → IsDescending xs → t < length xs → get_or xs t (pos 0) ≡ gone → j + 1 < length xs
    → (gone <ℤ get_or xs j (pos 0) → get_or xs j (pos 0) ≡ get_or (remove xs t) j (pos 0)) × (get_or xs j (pos 0) ≤ℤ gone → get_or xs (j + 1) (pos 0) ≡ get_or (remove xs t) j (pos 0))
left_out-at xs t j gone down h at below =
    let read = get_or-remove xs t j (pos 0) h in
    elim (cases_lt j t) [
      | inl less ↦
          let same : get_or (remove xs t) j (pos 0) ≡ get_or xs j (pos 0) = read ∙ ap (λ k. get_or xs k (pos 0)) (skip-before t j less) in (
            λ above. sym same,
            λ low.
                let here : get_or xs t (pos 0) ≤ℤ get_or xs j (pos 0) = down.falls j t (omega arith) h in
                let next : get_or xs (j + 1) (pos 0) ≤ℤ get_or xs j (pos 0) = down.falls j (j + 1) (omega arith) below in
                let last : get_or xs t (pos 0) ≤ℤ get_or xs (j + 1) (pos 0) = down.falls (j + 1) t (omega arith) h in
                omega (arith, ints, here, next, last, at, low, same),
          )
      | inr more ↦
          let e : skip t j ≡ j + 1 = omega (arith, skip-after t j more) in
          let same : get_or (remove xs t) j (pos 0) ≡ get_or xs (j + 1) (pos 0) = read ∙ ap (λ k. get_or xs k (pos 0)) e in
          let here : get_or xs j (pos 0) ≤ℤ get_or xs t (pos 0) = down.falls t j more (omega arith) in (
            λ above. omega (arith, ints, here, at, above),
            λ low. sym same,
          )
    ]

above_or_not : (x y : ℤ) (o : Ordering) → MatchOrdering o (x <ℤ y) (x ≡ y) (y <ℤ x) → (x <ℤ y) ⊎ (y ≤ℤ x)
above_or_not x y Less h = inl h
above_or_not x y Equal h = inr (omega (arith, ints))
above_or_not x y Greater h = inr (omega (arith, ints))

-- one number more is written
pub left_out-more : (xs numbers before : List ℤ) (t j start : ℕ) (gone w : ℤ) → IsDescending xs → t < length xs → get_or xs t (pos 0) ≡ gone → j + 1 < length xs → start + j < length numbers
    → take (start + j) numbers ≡ before ++ take j (remove xs t) → (gone <ℤ get_or xs j (pos 0) → w ≡ get_or xs j (pos 0)) → (get_or xs j (pos 0) ≤ℤ gone → w ≡ get_or xs (j + 1) (pos 0))
    → take (start + (j + 1)) (set numbers (start + j) w) ≡ before ++ take (j + 1) (remove xs t)
left_out-more xs numbers before t j start gone w down h at below inside written above low =
    let told = left_out-at xs t j gone down h at below in
    let is : w ≡ get_or (remove xs t) j (pos 0) = elim (above_or_not gone (get_or xs j (pos 0)) (int_cmp gone (get_or xs j (pos 0))) (int_ranks gone (get_or xs j (pos 0)))) [
      | inl less ↦ above less ∙ told.0 less
      | inr more ↦ low more ∙ told.1 more
    ] in
    let e : start + (j + 1) ≡ (start + j) + 1 = omega arith in
    ap (λ k. take k (set numbers (start + j) w)) e
    ∙ take_more_set numbers (start + j) w inside
    ∙ ap₂ (λ l x. l ++ x ∷ []) written is
    ∙ append_assoc before (take j (remove xs t)) (get_or (remove xs t) j (pos 0) ∷ [])
    ∙ ap (λ l. before ++ l) (sym (take_more (remove xs t) j (pos 0) (omega (arith, length-remove xs t h))))

-- a free one of number r among the others than number s, and its others
pub others-left : (n : ℕ) (matrix : List ℤ) (free : List ℕ) (s r u : ℕ) → s < length free → r + 1 < length free → u + 1 < length free → ((j : ℕ) → skip (skip s r) (skip u j) ≡ skip s (skip r j)) → remove (others n matrix free (skip s r)) u ≡ others n matrix (remove free s) r
others-left n matrix free s r u hs hr hu crossed =
    let q = skip s r in
    let count = length-remove free s hs in
    let q_below : q < length free = omega (arith, skip-within s r (length free - 1) (omega arith)) in
    let own : get_or (remove free s) r 0 ≡ get_or free q 0 = get_or-remove free s r 0 hs in
    let xs = others n matrix free q in
    let xs_count : length xs + 1 ≡ length free = omega (arith, length-map (remove free q) (entry n matrix (get_or free q 0)), length-remove free q q_below) in
    let left = remove xs u in
    let left_count : length left + 1 ≡ length xs = length-remove xs u (omega (arith, xs_count)) in
    let ys = others n matrix (remove free s) r in
    let ys_count : length ys + 1 ≡ length (remove free s) =
    omega (arith, length-map (remove (remove free s) r) (entry n matrix (get_or (remove free s) r 0)), length-remove (remove free s) r (omega (arith, count))) in
    ext_get_or (pos 0) left ys (omega (arith, count, xs_count, left_count, ys_count)) (λ j hj.
    let inner : skip u j < length xs = omega (arith, skip-within u j (length left) hj, left_count) in
    get_or-remove xs u j (pos 0) (omega (arith, xs_count))
    ∙ get_or-map_remove (entry n matrix (get_or free q 0)) free q (skip u j) q_below (omega (arith, inner, xs_count))
    ∙ ap₂ (λ (k l : ℕ). entry n matrix k l) (sym own) (ap (λ k. get_or free k 0) (crossed j) ∙ sym (get_or-remove free s (skip r j) 0 hs))
    ∙ sym (get_or-map_remove (entry n matrix (get_or (remove free s) r 0)) (remove free s) r j (omega (arith, count)) (omega (arith, count, ys_count, xs_count, left_count, hj))))

-- the others in order, without the one of number s
pub record LeavesOut (n : ℕ) (matrix : List ℤ) (free : List ℕ) (s r : ℕ) (sorted : List ℤ) : Type 0 where
  pub place : ℕ
  pub inside : place < length sorted
  pub value : get_or sorted place (pos 0) ≡ entry n matrix (get_or free (skip s r) 0) (get_or free s 0)
  pub arranged : IsArranged (others n matrix (remove free s) r) (remove sorted place)

-- where it stands among the others of another
pub record Crossed (s r : ℕ) : Type 0 where
  pub place : ℕ
  pub at : skip (skip s r) place ≡ s
  pub crossed : (j : ℕ) → skip (skip s r) (skip place j) ≡ skip s (skip r j)
  pub within : (n : ℕ) → s < n → r + 1 < n → place + 1 < n

-- number s and the one at place r of the others may be left out in either order: each has its place in what is left
pub crossed_at : (s r : ℕ) → Crossed s r
crossed_at s r =
    elim (cases_lt r s) [
      | inl less ↦
          let q : skip s r ≡ r = skip-before s r less in
          let back : suc (s - 1) ≡ s = omega arith in
          record {
            place = s - 1;
            at = ap (λ k. skip k (s - 1)) q ∙ skip-after r (s - 1) (omega arith) ∙ back;
            crossed = λ j. ap (λ k. skip k (skip (s - 1) j)) q ∙ sym (skip-skip r (s - 1) j (omega arith)) ∙ ap (λ k. skip k (skip r j)) back;
            within = λ n hs hr. omega arith;
          }
      | inr more ↦
          let q : skip s r ≡ suc r = skip-after s r more in
          record {
            place = s;
            at = ap (λ k. skip k s) q ∙ skip-before (suc r) s (omega arith);
            crossed = λ j. ap (λ k. skip k (skip s j)) q ∙ skip-skip s r j more;
            within = λ n hs hr. omega arith;
          }
    ]

-- the entries of a parent's row, in order, are those of the child's row and the one with the location that it takes
pub LeavesOut-of : (n : ℕ) (matrix : List ℤ) (free : List ℕ) (s r : ℕ) (sorted : List ℤ) → s < length free → r + 1 < length free → IsArranged (others n matrix free (skip s r)) sorted → LeavesOut n matrix free s r sorted
LeavesOut-of n matrix free s r sorted hs hr a =
    let q = skip s r in
    let q_below : q < length free = omega (arith, skip-within s r (length free - 1) (omega arith)) in
    let c = crossed_at s r in
    let u = c.place in
    let hu : u + 1 < length free = c.within (length free) hs hr in
    let xs = others n matrix free q in
    let xs_count : length xs + 1 ≡ length free = omega (arith, length-map (remove free q) (entry n matrix (get_or free q 0)), length-remove free q q_below) in
    let found = IsArranged-remove xs sorted u a (omega (arith, xs_count, hu)) in
    let value : get_or xs u (pos 0) ≡ entry n matrix (get_or free q 0) (get_or free s 0) =
    get_or-map_remove (entry n matrix (get_or free q 0)) free q u q_below (omega (arith, hu)) ∙ ap (λ k. entry n matrix (get_or free q 0) (get_or free k 0)) c.at in
    record {
      place = found.0;
      inside = found.1;
      value = found.2 ∙ value;
      arranged = subst (λ xs. IsArranged xs (remove sorted found.0)) (others-left n matrix free s r u hs hr hu c.crossed) found.3;
    }

-- where one more is taken, the free ones are those before but that one
pub free_below-more : (n : ℕ) (taken : List ℕ) (s : ℕ) → AreDifferent n taken → s < length (free_below n taken) → free_below n (taken ++ get_or (free_below n taken) s 0 ∷ []) ≡ remove (free_below n taken) s
free_below-more n taken s different h =
    let free = free_below n taken in
    let k = get_or free s 0 in
    let more = taken ++ k ∷ [] in
    let before : ListsFree n taken free = ListsFree-free_below n taken different in
    let after : ListsFree n more (free_below n more) = ListsFree-free_below n more (AreDifferent-more n k taken different (before.each s h)) in
    let count = length-remove free s h in
    let more_count : length more ≡ length taken + 1 = length-append taken (k ∷ []) in
    let inside : (i : ℕ) → i < length (remove free s) → skip s i < length free = λ i hi. omega (arith, count, skip-within s i (length (remove free s)) hi) in
    let first : (i : ℕ) → i < length taken → get_or more i 0 ≡ get_or taken i 0 = λ i hi. get_or_append_left taken (k ∷ []) 0 i hi in
    let last : get_or more (length taken) 0 ≡ k = get_or_push taken k 0 (length taken) refl in
    same_rising (free_below n more) (remove free s)
    after.ascending
    (λ i j ij hj. omega (arith, get_or-remove free s i 0 h, get_or-remove free s j 0 h, before.ascending (skip s i) (skip s j) (skip-rises s i j ij) (inside j hj)))
    (λ i hi.
    let here = after.each i hi in
    let found = before.all (get_or (free_below n more) i 0) (record {
      within = here.within;
      untaken = λ l hl e. here.untaken l (omega (arith, more_count)) (first l hl ∙ e);
    }) in
    let other : found.0 ≢ s = λ same. here.untaken (length taken) (omega (arith, more_count)) (last ∙ ap (λ j. get_or free j 0) (sym same) ∙ found.2) in (
      unskip s found.0,
      omega (arith, count, unskip-within s found.0 (length (remove free s)) (omega (arith, count)) (omega (arith, count, found.1)) other),
      get_or-remove free s (unskip s found.0) 0 h ∙ ap (λ j. get_or free j 0) (skip-unskip s found.0 other) ∙ found.2,
    ))
    (λ i hi.
    let here = before.each (skip s i) (inside i hi) in
    let value = get_or-remove free s i 0 h in
    let apart : get_or free (skip s i) 0 ≢ k = λ e.
    elim (cases_lt (skip s i) s) [
      | inl less ↦ omega (arith, e, before.ascending (skip s i) s less h)
      | inr more ↦
          let other = skip-other s i in
          omega (arith, e, before.ascending s (skip s i) (omega arith) (inside i hi))
    ] in
    after.all (get_or (remove free s) i 0) (record {
      within = omega (arith, value, here.within);
      untaken = λ l hl e.
          elim (cases_lt l (length taken)) [
            | inl less ↦ here.untaken l less (sym (first l less) ∙ e ∙ value)
            | inr more ↦
                let is : l ≡ length taken = omega (arith, more_count) in
                apart (sym value ∙ sym e ∙ ap (λ j. get_or (taken ++ k ∷ []) j 0) is ∙ last)
          ];
    }))
