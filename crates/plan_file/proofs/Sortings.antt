-- A node's facilities, ascending.
use Rattle.std.proofs.Common.{◌≡◌, ◌∙◌, ℕ, ◌+◌, ◌<◌, List, [], ◌∷◌, ◌++◌, get_or, length, length-append, ap, arith, inl, inr, refl, subst, sym}
use Rattle.std.specs.Prelude.{◌↔◌, Err, Ok, OnOk, Result}
use Rattle.std.proofs.lemmas.Bool.{cases_lt}
use Rattle.std.proofs.lemmas.List.{get_or_append_left, get_or_at}
use Rattle.qap_cost.specs.Placement.{Completes, IsFreeFacility, IsFreeLocation, IsPlacement, Placement, StandsAt, placing, root_of}
use Rattle.plan_file.specs.Sorting.{IsSortedTo}

-- the empty node places, ascending, what x places of the facilities below 0: none
pub IsSortedTo-none : (x : Placement) (n : ℕ) → n ≡ x.size → IsPlacement (root_of n) → IsSortedTo x 0 (root_of n)
IsSortedTo-none x n same placement = record {
  placement = placement;
  size = same;
  below = λ i inside. absurd (omega (arith, inside));
  ascending = λ i j earlier inside. absurd (omega (arith, inside));
  stands = λ i inside. absurd (omega (arith, inside));
  all = λ g k none. absurd (omega (arith, none));
}

-- where x doesn't place facility f, y already has those below f + 1
pub IsSortedTo-skip : (x y : Placement) (f : ℕ) → IsSortedTo x f y → ((k : ℕ) → StandsAt x f k → ⊥) → IsSortedTo x (f + 1) y
IsSortedTo-skip x y f sorted free = record {
  placement = sorted.placement;
  size = sorted.size;
  below = λ i inside. omega (arith, sorted.below i inside);
  ascending = sorted.ascending;
  stands = sorted.stands;
  all = λ g k below there.
      elim (cases_lt g f) [
        | inl before ↦ sorted.all g k before there
        | inr past ↦
            let here : g ≡ f = omega (arith, below, past) in
            absurd (free k (subst (λ h. StandsAt x h k) here there))
      ];
}

-- facility f is still free in y
pub free_facility : (x y : Placement) (f : ℕ) → f < x.size → IsSortedTo x f y → IsFreeFacility y f
free_facility x y f inside sorted = record {
  within = omega (arith, inside, sorted.size);
  untaken = λ i below same. let less = sorted.below i below in omega (arith, less, same);
}

-- two facilities that stand at one place are one
same_facility : (x : Placement) (f g k : ℕ) → IsPlacement x → StandsAt x f k → StandsAt x g k → f ≡ g
same_facility x f g k placement one other =
    let turn : one.turn ≡ other.turn =
    placement.places.distinct one.turn other.turn (omega (arith, one.placed, placement.paired)) (omega (arith, other.placed, placement.paired)) (one.location ∙ sym other.location) in
    sym one.facility ∙ ap (λ t. get_or x.facilities t 0) turn ∙ other.facility

-- the location at which x places facility f is still free in y
pub free_location : (x y : Placement) (f k : ℕ) → IsPlacement x → StandsAt x f k → IsSortedTo x f y → IsFreeLocation y k
free_location x y f k placement there sorted = record {
  within =
      let inside = placement.places.within there.turn (omega (arith, there.placed, placement.paired)) in
      omega (arith, inside, there.location, sorted.size);
  untaken = λ i below same.
      let own : i < length y.facilities = omega (arith, below, sorted.placement.paired) in
      let g = get_or y.facilities i 0 in
      let one : g ≡ f = same_facility x g f k placement (subst (StandsAt x g) same (sorted.stands i own)) there in
      let less = sorted.below i own in
      absurd (omega (arith, less, one));
}

-- a facility stands at one place
one_place : (x : Placement) (f k l : ℕ) → IsPlacement x → StandsAt x f k → StandsAt x f l → k ≡ l
one_place x f k l placement one other =
    let turn : one.turn ≡ other.turn =
    placement.facilities.distinct one.turn other.turn one.placed other.placed (one.facility ∙ sym other.facility) in
    sym one.location ∙ ap (λ t. get_or x.places t 0) turn ∙ other.location

-- with facility f placed in y as in x, y has those below f + 1
pub IsSortedTo-more : (x y newer : Placement) (f k : ℕ) → IsPlacement x → IsSortedTo x f y → StandsAt x f k → newer ≡ placing y f k → IsPlacement newer → IsSortedTo x (f + 1) newer
IsSortedTo-more x y newer f k own sorted there is placement =
    let n = length y.facilities in
    let paired = sorted.placement.paired in
    let long = length-append y.facilities (f ∷ []) in
    let old : (i : ℕ) → i < n → get_or (y.facilities ++ f ∷ []) i 0 ≡ get_or y.facilities i 0 = λ i inside. get_or_append_left y.facilities (f ∷ []) 0 i inside in
    let old_place : (i : ℕ) → i < n → get_or (y.places ++ k ∷ []) i 0 ≡ get_or y.places i 0 = λ i inside. get_or_append_left y.places (k ∷ []) 0 i (omega (arith, inside, paired)) in
    let last : (i : ℕ) → n ≡ i → get_or (y.facilities ++ f ∷ []) i 0 ≡ f = λ i here. get_or_at y.facilities f [] 0 i here in
    let last_place : (i : ℕ) → n ≡ i → get_or (y.places ++ k ∷ []) i 0 ≡ k = λ i here. get_or_at y.places k [] 0 i (paired ∙ here) in
    subst (IsSortedTo x (f + 1)) (sym is) (record {
      placement = subst IsPlacement is placement;
      size = sorted.size;
      below = λ i inside.
          elim (cases_lt i n) [
            | inl before ↦ let less = sorted.below i before in let at = old i before in omega (arith, less, at)
            | inr past ↦ let at = last i (omega (arith, inside, past, long)) in omega (arith, at)
          ];
      ascending = λ i j earlier inside.
          elim (cases_lt j n) [
            | inl before ↦
                let less = sorted.ascending i j earlier before in
                let at_i = old i (omega (arith, earlier, before)) in
                let at_j = old j before in
                omega (arith, less, at_i, at_j)
            | inr past ↦
                let here : n ≡ j = omega (arith, inside, past, long) in
                let first : i < n = omega (arith, earlier, here) in
                let less = sorted.below i first in
                let at_i = old i first in
                let at_j = last j here in
                omega (arith, less, at_i, at_j)
          ];
      stands = λ i inside.
          elim (cases_lt i n) [
            | inl before ↦
                subst (λ g. StandsAt x g (get_or (y.places ++ k ∷ []) i 0)) (sym (old i before))
                (subst (StandsAt x (get_or y.facilities i 0)) (sym (old_place i before)) (sorted.stands i before))
            | inr past ↦
                let here : n ≡ i = omega (arith, inside, past, long) in
                subst (λ g. StandsAt x g (get_or (y.places ++ k ∷ []) i 0)) (sym (last i here)) (subst (StandsAt x f) (sym (last_place i here)) there)
          ];
      all = λ g l below stands.
          elim (cases_lt g f) [
            | inl before ↦
                let s = sorted.all g l before stands in
                record {
                  turn = s.turn;
                  placed = omega (arith, s.placed, long);
                  facility = old s.turn s.placed ∙ s.facility;
                  location = old_place s.turn s.placed ∙ s.location;
                }
            | inr past ↦
                let here : g ≡ f = omega (arith, below, past) in
                record {
                  turn = n;
                  placed = omega (arith, long);
                  facility = last n refl ∙ sym here;
                  location = last_place n refl ∙ one_place x f k l own there (subst (λ h. StandsAt x h l) here stands);
                }
          ];
    })

-- what completes the one completes the other
pub same_completions : (x y : Placement) (f : ℕ) (p : List ℕ) → IsPlacement x → f ≡ x.size → IsSortedTo x f y → Completes x p ↔ Completes y p
same_completions x y f p placement whole sorted = (
  (λ completes. record {
    bijection = completes.bijection;
    same_size = completes.same_size ∙ sym sorted.size;
    agrees = λ t inside.
        let s = sorted.stands t inside in
        ap (λ g. get_or p g 0) (sym s.facility) ∙ completes.agrees s.turn s.placed ∙ s.location;
  }),
  (λ completes. record {
    bijection = completes.bijection;
    same_size = completes.same_size ∙ sorted.size;
    agrees = λ t inside.
        let g = get_or x.facilities t 0 in
        let small : g < f = omega (arith, placement.facilities.within t inside, whole) in
        let s = sorted.all g (get_or x.places t 0) small (record { turn = t; placed = inside; facility = refl; location = refl }) in
        ap (λ h. get_or p h 0) (sym s.facility) ∙ completes.agrees s.turn s.placed ∙ s.location;
  }),
)

-- what follows at Ok
pub on_ok_with : {E : Type 0} (r : Result (Unit {0}) E) (P Q : Type 0) → (P → Q) → OnOk r P → OnOk r Q
on_ok_with (Ok u) P Q f h = f h
on_ok_with (Err e) P Q f h = tt
