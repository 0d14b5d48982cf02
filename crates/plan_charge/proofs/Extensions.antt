-- Permutations with the extra facilities, and without.
use Rattle.std.proofs.Common.{◌≡◌, ◌∙◌, ℕ, ◌+◌, ◌-◌, ◌<◌, ◌≤◌, List, ap, arith, get_or, inl, inr, length, length-append, refl, subst, sym, take}
use Rattle.std.specs.List.{range_with_len}
use Rattle.std.proofs.lemmas.Bool.{cases_lt}
use Rattle.std.proofs.lemmas.List.{get_or-take, get_or_append_left, get_or-append_right, length-take-le}
use Rattle.std.proofs.lemmas.List.FromFn.{get_or-range_with_len, length-range_with_len}
use Rattle.std.proofs.lemmas.Grind.{same_number_lists}
use Rattle.qap_cost.specs.Bijection.{IsBijection, IsPerm}
use Rattle.qap_cost.specs.Placement.{Completes, IsPlacement, Placement}
use Rattle.plan_charge.specs.Extended.{IsExtendedNode, extended_list}
use Rattle.plan_charge.proofs.Charged.{extra_at, front_at}

-- how long it is
pub extended-length : (count : ℕ) (p : List ℕ) → length (extended_list count p) ≡ length p + count
extended-length count p = length-append p (range_with_len (length p) count) ∙ ap (λ n. length p + n) (length-range_with_len (length p) count)

-- a position in front, or one of an extra facility
front_or_extra : (n count i : ℕ) → i < n + count → n ≤ i → (r : ℕ) × (r < count) × (i ≡ n + r)
front_or_extra n count i below past = (i - n, omega arith, omega arith)

-- a permutation with the extra facilities is one
pub extended-IsBijection : (count : ℕ) (p : List ℕ) → IsBijection p → IsBijection (extended_list count p)
extended-IsBijection count p perm =
    let q = extended_list count p in
    let n = length p in
    let long : length q ≡ n + count = extended-length count p in
    let at : (i : ℕ) → i < n + count → n ≤ i → get_or q i 0 ≡ i =
    λ i below past.
    let (r, inside, is) = front_or_extra n count i below past in
    ap (λ j. get_or q j 0) is ∙ extra_at count p r inside ∙ sym is in
    record {
      within = λ i below.
          elim (cases_lt i n) [
            | inl inside ↦ omega (arith, long, front_at count p i inside, perm.within i inside)
            | inr past ↦ omega (arith, long, at i (omega (arith, long)) past)
          ];
      distinct = λ i j first second same.
          elim (cases_lt i n) [
            | inl i_inside ↦ elim (cases_lt j n) [
              | inl j_inside ↦ perm.distinct i j i_inside j_inside (sym (front_at count p i i_inside) ∙ same ∙ front_at count p j j_inside)
              | inr j_past ↦ absurd (omega (arith, same, front_at count p i i_inside, perm.within i i_inside, at j (omega (arith, long)) j_past))
            ]
            | inr i_past ↦ elim (cases_lt j n) [
              | inl j_inside ↦ absurd (omega (arith, same, front_at count p j j_inside, perm.within j j_inside, at i (omega (arith, long)) i_past))
              | inr j_past ↦ omega (arith, same, at i (omega (arith, long)) i_past, at j (omega (arith, long)) j_past)
            ]
          ];
    }

-- it completes the node with the extra facilities
pub extended-Completes : (count : ℕ) (x y : Placement) (p : List ℕ) → IsPlacement x → IsExtendedNode count x y → Completes x p → Completes y (extended_list count p)
extended-Completes count x y p placement extended completes =
    let q = extended_list count p in
    let m = length x.facilities in
    let more = range_with_len x.size count in
    let long : length y.facilities ≡ m + count = ap length extended.facilities ∙ length-append x.facilities more ∙ ap (λ n. m + n) (length-range_with_len x.size count) in
    record {
      bijection = extended-IsBijection count p completes.bijection;
      same_size = extended-length count p ∙ ap (λ n. n + count) completes.same_size ∙ sym extended.size;
      agrees = λ t below.
          elim (cases_lt t m) [
            | inl inside ↦
                let f = get_or x.facilities t 0 in
                let facility : get_or y.facilities t 0 ≡ f = ap (λ l. get_or l t 0) extended.facilities ∙ get_or_append_left x.facilities more 0 t inside in
                let place : get_or y.places t 0 ≡ get_or x.places t 0 =
                ap (λ l. get_or l t 0) extended.places ∙ get_or_append_left x.places more 0 t (omega (arith, placement.paired)) in
                let there : f < length p = omega (arith, placement.facilities.within t inside, completes.same_size) in
                ap (λ k. get_or q k 0) facility ∙ front_at count p f there ∙ completes.agrees t inside ∙ sym place
            | inr past ↦
                let (r, inside, is) = front_or_extra m count t (omega (arith, long)) past in
                let back : t - m ≡ r = omega arith in
                let facility : get_or y.facilities t 0 ≡ x.size + r =
                ap (λ l. get_or l t 0) extended.facilities ∙ get_or-append_right x.facilities more m t 0 refl past
                ∙ ap (λ k. get_or more k 0) back ∙ get_or-range_with_len x.size count r 0 inside in
                let place : get_or y.places t 0 ≡ x.size + r =
                ap (λ l. get_or l t 0) extended.places ∙ get_or-append_right x.places more m t 0 placement.paired past
                ∙ ap (λ k. get_or more k 0) back ∙ get_or-range_with_len x.size count r 0 inside in
                ap (λ k. get_or q k 0) facility
                ∙ subst (λ n. get_or q (n + r) 0 ≡ n + r) completes.same_size (extra_at count p r inside)
                ∙ sym place
          ];
    }

-- where an extra facility is in a permutation that completes that node
extra_is : (count : ℕ) (x y : Placement) (q : List ℕ) (r : ℕ) → IsPlacement x → IsExtendedNode count x y → Completes y q → r < count → get_or q (x.size + r) 0 ≡ x.size + r
extra_is count x y q r placement extended completes below =
    let m = length x.facilities in
    let more = range_with_len x.size count in
    let long : length y.facilities ≡ m + count = ap length extended.facilities ∙ length-append x.facilities more ∙ ap (λ n. m + n) (length-range_with_len x.size count) in
    let back : m + r - m ≡ r = omega arith in
    let facility : get_or y.facilities (m + r) 0 ≡ x.size + r =
    ap (λ l. get_or l (m + r) 0) extended.facilities ∙ get_or-append_right x.facilities more m (m + r) 0 refl (omega arith)
    ∙ ap (λ k. get_or more k 0) back ∙ get_or-range_with_len x.size count r 0 below in
    let place : get_or y.places (m + r) 0 ≡ x.size + r =
    ap (λ l. get_or l (m + r) 0) extended.places ∙ get_or-append_right x.places more m (m + r) 0 placement.paired (omega arith)
    ∙ ap (λ k. get_or more k 0) back ∙ get_or-range_with_len x.size count r 0 below in
    ap (λ k. get_or q k 0) (sym facility) ∙ completes.agrees (m + r) (omega (arith, long)) ∙ place

-- without the extra facilities it completes the node without them
pub front-Completes : (count : ℕ) (x y : Placement) (q : List ℕ) → IsPlacement x → IsExtendedNode count x y → Completes y q → Completes x (take x.size q)
front-Completes count x y q placement extended completes =
    let n = x.size in
    let p = take n q in
    let long : length q ≡ n + count = completes.same_size ∙ extended.size in
    let short : length p ≡ n = length-take-le n q (omega (arith, long)) in
    let at : (i : ℕ) → i < n → get_or p i 0 ≡ get_or q i 0 = λ i below. get_or-take n q i 0 below in
    let inside : (i : ℕ) → i < n → get_or q i 0 < n =
    λ i below.
    elim (cases_lt (get_or q i 0) n) [
      | inl less ↦ less
      | inr past ↦
          let all = completes.bijection.within i (omega (arith, long)) in
          let (r, extra, is) = front_or_extra n count (get_or q i 0) (omega (arith, all, long)) past in
          let there = extra_is count x y q r placement extended completes extra in
          let same : i ≡ n + r = completes.bijection.distinct i (n + r) (omega (arith, long)) (omega (arith, long)) (is ∙ sym there) in
          absurd (omega (arith, same))
    ] in
    record {
      bijection = record {
        within = λ i below. omega (arith, short, at i (omega (arith, short)), inside i (omega (arith, short)));
        distinct = λ i j first second same.
            completes.bijection.distinct i j (omega (arith, short, long)) (omega (arith, short, long))
            (sym (at i (omega (arith, short))) ∙ same ∙ at j (omega (arith, short)));
      };
      same_size = short;
      agrees = λ t below.
          let more = range_with_len n count in
          let m = length x.facilities in
          let longer : length y.facilities ≡ m + count = ap length extended.facilities ∙ length-append x.facilities more ∙ ap (λ k. m + k) (length-range_with_len n count) in
          let f = get_or x.facilities t 0 in
          let facility : get_or y.facilities t 0 ≡ f = ap (λ l. get_or l t 0) extended.facilities ∙ get_or_append_left x.facilities more 0 t below in
          let place : get_or y.places t 0 ≡ get_or x.places t 0 =
          ap (λ l. get_or l t 0) extended.places ∙ get_or_append_left x.places more 0 t (omega (arith, placement.paired)) in
          at f (placement.facilities.within t below) ∙ ap (λ k. get_or q k 0) (sym facility) ∙ completes.agrees t (omega (arith, longer)) ∙ place;
    }

-- a permutation that completes that node is the one without the extra facilities, extended
pub front-extended : (count : ℕ) (x y : Placement) (q : List ℕ) → IsPlacement x → IsExtendedNode count x y → Completes y q → q ≡ extended_list count (take x.size q)
front-extended count x y q placement extended completes =
    let n = x.size in
    let p = take n q in
    let long : length q ≡ n + count = completes.same_size ∙ extended.size in
    let short : length p ≡ n = length-take-le n q (omega (arith, long)) in
    same_number_lists q (extended_list count p) (omega (arith, long, extended-length count p, short)) (λ k below.
    elim (cases_lt k n) [
      | inl inside ↦ sym (front_at count p k (omega (arith, short)) ∙ get_or-take n q k 0 inside)
      | inr past ↦
          let (r, extra, is) = front_or_extra n count k (omega (arith, long)) past in
          let there = extra_is count x y q r placement extended completes extra in
          let here : get_or (extended_list count p) (n + r) 0 ≡ n + r = subst (λ m. get_or (extended_list count p) (m + r) 0 ≡ m + r) short (extra_at count p r extra) in
          ap (λ j. get_or q j 0) is ∙ there ∙ sym here ∙ ap (λ j. get_or (extended_list count p) j 0) (sym is)
    ])

-- a permutation with the extra facilities is one of so many numbers
pub extended-IsPerm : (count : ℕ) (p : List ℕ) → IsPerm p → length p + count ≤ 256 → IsPerm (extended_list count p)
extended-IsPerm count p perm room = record {
  bijection = extended-IsBijection count p perm.bijection;
  positive = omega (arith, extended-length count p, perm.positive);
  small = omega (arith, extended-length count p);
}
