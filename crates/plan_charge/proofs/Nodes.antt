-- A node that is built again, with extra facilities.
use Rattle.std.proofs.Common.{◌≡◌, ◌∙◌, ℕ, ◌+◌, ◌-◌, ◌<◌, ◌≤◌, List, [], ◌∷◌, ◌++◌, ap, arith, get_or, inl, inr, length, length-append, refl, subst, sym, take}
use Rattle.std.specs.List.{range_with_len}
use Rattle.std.proofs.lemmas.Bool.{cases_lt}
use Rattle.std.proofs.lemmas.Grind.{same_number_lists}
use Rattle.std.proofs.lemmas.List.{append-nil, append_assoc, get_or-append_right, get_or-take, get_or_append_left, get_or_at, length-take-le, take_all, take_more}
use Rattle.std.proofs.lemmas.List.FromFn.{get_or-range_with_len, length-range_with_len}
use Rattle.qap_cost.specs.Bijection.{AreDifferent}
use Rattle.qap_cost.specs.Placement.{IsFree, IsFreeFacility, IsFreeLocation, IsPlacement, Placement, placing, root_of}
use Rattle.plan_charge.specs.Extended.{IsExtendedNode}

-- one number more of a range
pub range-more : (a n : ℕ) → range_with_len a (n + 1) ≡ range_with_len a n ++ (a + n) ∷ []
range-more a n =
    let xs = range_with_len a n in
    same_number_lists (range_with_len a (n + 1)) (xs ++ (a + n) ∷ [])
    (omega (arith, length-range_with_len a (n + 1), length-range_with_len a n, length-append xs ((a + n) ∷ [])))
    (λ k below.
    let inside : k < n + 1 = omega (arith, length-range_with_len a (n + 1)) in
    elim (cases_lt k n) [
      | inl less ↦
          get_or-range_with_len a (n + 1) k 0 inside
          ∙ sym (get_or_append_left xs ((a + n) ∷ []) 0 k (omega (arith, length-range_with_len a n)) ∙ get_or-range_with_len a n k 0 less)
      | inr past ↦
          let here : k ≡ n = omega arith in
          get_or-range_with_len a (n + 1) k 0 inside ∙ ap (λ i. a + i) here
          ∙ sym (get_or_at xs (a + n) [] 0 k (omega (arith, length-range_with_len a n)))
    ])

-- so far the first facilities are placed, as in x
pub record IsBegun (count t : ℕ) (x y : Placement) : Type 0 where
  pub size : y.size ≡ x.size + count
  pub facilities : y.facilities ≡ take t x.facilities
  pub places : y.places ≡ take t x.places

-- so far this many extra facilities are placed
pub record IsGrown (count i : ℕ) (x y : Placement) : Type 0 where
  pub size : y.size ≡ x.size + count
  pub facilities : y.facilities ≡ x.facilities ++ range_with_len x.size i
  pub places : y.places ≡ x.places ++ range_with_len x.size i

pub IsBegun-none : (count n : ℕ) (x y : Placement) → n ≡ x.size + count → y ≡ root_of n → IsBegun count 0 x y
IsBegun-none count n x y sized is = record {
  size = ap (λ (z : Placement). z.size) is ∙ sized;
  facilities = ap (λ (z : Placement). z.facilities) is;
  places = ap (λ (z : Placement). z.places) is;
}

-- a number at a place is not among those before it
free_next : (n count t : ℕ) (xs ys : List ℕ) (k : ℕ) → AreDifferent n xs → t < length xs → ys ≡ take t xs → k ≡ get_or xs t 0 → IsFree (n + count) ys k
free_next n count t xs ys k different below is at = record {
  within = omega (arith, different.within t below);
  untaken = λ i inside same.
      let short : length ys ≡ t = ap length is ∙ length-take-le t xs (omega arith) in
      let there : get_or ys i 0 ≡ get_or xs i 0 = ap (λ l. get_or l i 0) is ∙ get_or-take t xs i 0 (omega (arith, short)) in
      let once : i ≡ t = different.distinct i t (omega (arith, short)) below (sym there ∙ same ∙ at) in
      absurd (omega (arith, once, short));
}

pub begun_facility : (count t : ℕ) (x y : Placement) (f : ℕ) → IsPlacement x → IsBegun count t x y → t < length x.facilities → f ≡ get_or x.facilities t 0 → IsFreeFacility y f
begun_facility count t x y f placement begun below at =
    subst (λ n. IsFree n y.facilities f) (sym begun.size) (free_next x.size count t x.facilities y.facilities f placement.facilities below begun.facilities at)

pub begun_location : (count t : ℕ) (x y : Placement) (k : ℕ) → IsPlacement x → IsBegun count t x y → t < length x.facilities → k ≡ get_or x.places t 0 → IsFreeLocation y k
begun_location count t x y k placement begun below at =
    subst (λ n. IsFree n y.places k) (sym begun.size) (free_next x.size count t x.places y.places k placement.places (omega (arith, placement.paired)) begun.places at)

pub IsBegun-more : (count t : ℕ) (x y newer : Placement) (f k : ℕ) → IsPlacement x → IsBegun count t x y → t < length x.facilities → f ≡ get_or x.facilities t 0 → k ≡ get_or x.places t 0 → newer ≡ placing y f k
    → IsBegun count (t + 1) x newer
IsBegun-more count t x y newer f k placement begun below facility place is = record {
  size = ap (λ (z : Placement). z.size) is ∙ begun.size;
  facilities =
      ap (λ (z : Placement). z.facilities) is ∙ ap (λ l. l ++ f ∷ []) begun.facilities ∙ ap (λ g. take t x.facilities ++ g ∷ []) facility
      ∙ sym (take_more x.facilities t 0 below);
  places =
      ap (λ (z : Placement). z.places) is ∙ ap (λ l. l ++ k ∷ []) begun.places ∙ ap (λ g. take t x.places ++ g ∷ []) place
      ∙ sym (take_more x.places t 0 (omega (arith, placement.paired)));
}

-- all of x is placed, and no extra facility
pub IsGrown-none : (count t : ℕ) (x y : Placement) → IsPlacement x → IsBegun count t x y → length x.facilities ≤ t → IsGrown count 0 x y
IsGrown-none count t x y placement begun whole = record {
  size = begun.size;
  facilities = begun.facilities ∙ take_all t x.facilities whole ∙ sym (append-nil x.facilities);
  places = begun.places ∙ take_all t x.places (omega (arith, placement.paired)) ∙ sym (append-nil x.places);
}

-- the next extra number is free
free_extra : (n count i : ℕ) (xs ys : List ℕ) (k : ℕ) → AreDifferent n xs → i < count → ys ≡ xs ++ range_with_len n i → k ≡ n + i → IsFree (n + count) ys k
free_extra n count i xs ys k different below is at = record {
  within = omega (arith, at);
  untaken = λ j inside same.
      let more = range_with_len n i in
      let long : length ys ≡ length xs + i = ap length is ∙ length-append xs more ∙ ap (λ m. length xs + m) (length-range_with_len n i) in
      elim (cases_lt j (length xs)) [
        | inl less ↦
            let there : get_or ys j 0 ≡ get_or xs j 0 = ap (λ l. get_or l j 0) is ∙ get_or_append_left xs more 0 j less in
            absurd (omega (arith, different.within j less, there, same, at))
        | inr past ↦
            let there : get_or ys j 0 ≡ get_or more (j - length xs) 0 = ap (λ l. get_or l j 0) is ∙ get_or-append_right xs more (length xs) j 0 refl past in
            let extra : get_or more (j - length xs) 0 ≡ n + (j - length xs) = get_or-range_with_len n i (j - length xs) 0 (omega (arith, long)) in
            absurd (omega (arith, there, extra, same, at, long))
      ];
}

pub grown_facility : (count i : ℕ) (x y : Placement) (f : ℕ) → IsPlacement x → IsGrown count i x y → i < count → f ≡ x.size + i → IsFreeFacility y f
grown_facility count i x y f placement grown below at =
    subst (λ n. IsFree n y.facilities f) (sym grown.size) (free_extra x.size count i x.facilities y.facilities f placement.facilities below grown.facilities at)

pub grown_location : (count i : ℕ) (x y : Placement) (k : ℕ) → IsPlacement x → IsGrown count i x y → i < count → k ≡ x.size + i → IsFreeLocation y k
grown_location count i x y k placement grown below at =
    subst (λ n. IsFree n y.places k) (sym grown.size) (free_extra x.size count i x.places y.places k placement.places below grown.places at)

-- one extra number more at the end of a list
pub extra_more : (n i : ℕ) (xs ys newer : List ℕ) (k : ℕ) → ys ≡ xs ++ range_with_len n i → k ≡ n + i → newer ≡ ys ++ k ∷ [] → newer ≡ xs ++ range_with_len n (i + 1)
extra_more n i xs ys newer k is at pushed =
    pushed ∙ ap (λ l. l ++ k ∷ []) is ∙ ap (λ z. (xs ++ range_with_len n i) ++ z ∷ []) at
    ∙ append_assoc xs (range_with_len n i) ((n + i) ∷ [])
    ∙ ap (λ l. xs ++ l) (sym (range-more n i))

pub IsGrown-more : (count i : ℕ) (x y newer : Placement) (k : ℕ) → IsGrown count i x y → k ≡ x.size + i → newer ≡ placing y k k → IsGrown count (i + 1) x newer
IsGrown-more count i x y newer k grown at is = record {
  size = ap (λ (z : Placement). z.size) is ∙ grown.size;
  facilities = extra_more x.size i x.facilities y.facilities newer.facilities k grown.facilities at (ap (λ (z : Placement). z.facilities) is);
  places = extra_more x.size i x.places y.places newer.places k grown.places at (ap (λ (z : Placement). z.places) is);
}

-- all extra facilities are placed
pub extended_from : (count i : ℕ) (x y : Placement) → IsGrown count i x y → i ≡ count → IsExtendedNode count x y
extended_from count i x y grown whole = record {
  size = grown.size;
  facilities = grown.facilities ∙ ap (λ n. x.facilities ++ range_with_len x.size n) whole;
  places = grown.places ∙ ap (λ n. x.places ++ range_with_len x.size n) whole;
}
