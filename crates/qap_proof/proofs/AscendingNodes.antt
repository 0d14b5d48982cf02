-- A node's facilities, placed again in ascending order.
use Rattle.std.proofs.Common.{◌≡◌, ℕ, ◌+◌, ◌<◌, ◌≤◌, ◌++◌, ◌∷◌, [], length, get_or, refl, sym, ◌∙◌, ap, subst, inl, inr, arith}
use Rattle.std.proofs.lemmas.Bool.{cases_lt}
use Rattle.std.proofs.lemmas.List.{length-append}
use Rattle.qap_cost.specs.Placement.{IsFreeFacility, IsFreeLocation, IsPlacement, Placement, StandsAt, placing, root_of}
use Rattle.qap_cost.proofs.Placements.{IsPlacement-placing}
use Rattle.qap_proof.proofs.Roots.{at_last, before_last}
use Rattle.qap_proof.specs.Cover.{AreAmong}
use Rattle.qap_proof.specs.Missing.{IsAscendingOf}

-- y places, ascending, what x places of the facilities below i
pub record IsAscendingTo (i : ℕ) (x y : Placement) : Type 0 where
  pub placement : IsPlacement y
  pub size : y.size ≡ x.size
  pub rises : (s t : ℕ) → s < t → t < length y.facilities → get_or y.facilities s 0 < get_or y.facilities t 0
  pub below : (t : ℕ) → t < length y.facilities → get_or y.facilities t 0 < i
  pub places : AreAmong y x
  pub all : (t : ℕ) → t < length x.facilities → get_or x.facilities t 0 < i → StandsAt y (get_or x.facilities t 0) (get_or x.places t 0)

-- the empty node places, ascending, what x places of the facilities below 0: none
pub IsAscendingTo-root : (x : Placement) → IsPlacement x → IsPlacement (root_of x.size) → IsAscendingTo 0 x (root_of x.size)
IsAscendingTo-root x h root = record {
  placement = root;
  size = refl;
  rises = λ s t less below. absurd (omega (arith, below));
  below = λ t below. absurd (omega (arith, below));
  places = λ t below. absurd (omega (arith, below));
  all = λ t below less. absurd (omega (arith, less));
}

-- facility i, which x places, is still free in y
pub ascending_facility : (i k : ℕ) (x y : Placement) → IsPlacement x → IsAscendingTo i x y → StandsAt x i k → IsFreeFacility y i
ascending_facility i k x y h to at = record {
  within = let at_is = at.facility in omega (arith, h.facilities.within at.turn at.placed, at_is, to.size);
  untaken = λ t below same. omega (arith, to.below t below, same);
}

-- the same for the location at which x places it
pub ascending_location : (i k : ℕ) (x y : Placement) → IsPlacement x → IsAscendingTo i x y → StandsAt x i k → IsFreeLocation y k
ascending_location i k x y h to at = record {
  within = omega (arith, h.places.within at.turn (omega (arith, at.placed, h.paired)), at.location, to.size);
  untaken = λ t below same.
      let inside : t < length y.facilities = omega (arith, below, to.placement.paired) in
      let stands = to.places t inside in
      let turn : stands.turn ≡ at.turn =
      h.places.distinct stands.turn at.turn (omega (arith, stands.placed, h.paired)) (omega (arith, at.placed, h.paired)) (stands.location ∙ same ∙ sym at.location) in
      let own : get_or y.facilities t 0 ≡ i = sym stands.facility ∙ ap (λ (s : ℕ). get_or x.facilities s 0) turn ∙ at.facility in
      omega (arith, to.below t inside, own);
}

StandsAt-placing : (y : Placement) (i k f l : ℕ) → length y.places ≡ length y.facilities → StandsAt y f l → StandsAt (placing y i k) f l
StandsAt-placing y i k f l paired at = record {
  turn = at.turn;
  placed = omega (arith, at.placed, length-append y.facilities (i ∷ []));
  facility = before_last y.facilities i at.turn at.placed ∙ at.facility;
  location = before_last y.places k at.turn (omega (arith, at.placed, paired)) ∙ at.location;
}

StandsAt-placed : (y : Placement) (i k : ℕ) → length y.places ≡ length y.facilities → StandsAt (placing y i k) i k
StandsAt-placed y i k paired = record {
  turn = length y.facilities;
  placed = omega (arith, length-append y.facilities (i ∷ []));
  facility = at_last y.facilities i (length y.facilities) refl;
  location = at_last y.places k (length y.facilities) (sym paired);
}

-- with facility i placed in y as in x, y has those below i + 1
pub IsAscendingTo-placing : (i k : ℕ) (x y : Placement) → IsPlacement x → IsAscendingTo i x y → StandsAt x i k → IsAscendingTo (i + 1) x (placing y i k)
IsAscendingTo-placing i k x y h to at =
    let m = length y.facilities in
    let counted : length (y.facilities ++ i ∷ []) ≡ m + 1 = length-append y.facilities (i ∷ []) in
    let front : (t : ℕ) → t < m → get_or (y.facilities ++ i ∷ []) t 0 ≡ get_or y.facilities t 0 = before_last y.facilities i in
    let last : (t : ℕ) → t ≡ m → get_or (y.facilities ++ i ∷ []) t 0 ≡ i = at_last y.facilities i in
    record {
      placement = IsPlacement-placing y i k to.placement (ascending_facility i k x y h to at) (ascending_location i k x y h to at);
      size = to.size;
      rises = λ s t less below.
          let first = front s (omega (arith, less, below, counted)) in
          elim (cases_lt t m) [
            | inl before ↦ omega (arith, first, front t before, to.rises s t less before)
            | inr past ↦ omega (arith, first, last t (omega (arith, past, below, counted)), to.below s (omega (arith, less, below, counted)))
          ];
      below = λ t below.
          elim (cases_lt t m) [
            | inl before ↦ omega (arith, front t before, to.below t before)
            | inr past ↦ omega (arith, last t (omega (arith, past, below, counted)))
          ];
      places = λ t below.
          elim (cases_lt t m) [
            | inl before ↦
                subst (λ (l : ℕ). StandsAt x (get_or (y.facilities ++ i ∷ []) t 0) l) (sym (before_last y.places k t (omega (arith, before, to.placement.paired))))
                (subst (λ (f : ℕ). StandsAt x f (get_or y.places t 0)) (sym (front t before)) (to.places t before))
            | inr past ↦
                let here : t ≡ m = omega (arith, past, below, counted) in
                subst (λ (l : ℕ). StandsAt x (get_or (y.facilities ++ i ∷ []) t 0) l) (sym (at_last y.places k t (here ∙ sym to.placement.paired)))
                (subst (λ (f : ℕ). StandsAt x f k) (sym (last t here)) at)
          ];
      all = λ t below less.
          elim (cases_lt (get_or x.facilities t 0) i) [
            | inl before ↦ StandsAt-placing y i k (get_or x.facilities t 0) (get_or x.places t 0) to.placement.paired (to.all t below before)
            | inr past ↦
                let own : get_or x.facilities t 0 ≡ i = omega (arith, past, less) in
                let turn : t ≡ at.turn = h.facilities.distinct t at.turn below at.placed (own ∙ sym at.facility) in
                let there : get_or x.places t 0 ≡ k = ap (λ (s : ℕ). get_or x.places s 0) turn ∙ at.location in
                subst (λ (l : ℕ). StandsAt (placing y i k) (get_or x.facilities t 0) l) (sym there)
                (subst (λ (f : ℕ). StandsAt (placing y i k) f k) (sym own) (StandsAt-placed y i k to.placement.paired))
          ];
    }

-- where x doesn't place facility i, y already has those below i + 1
pub IsAscendingTo-none : (i : ℕ) (x y : Placement) → IsAscendingTo i x y → ((k : ℕ) → StandsAt x i k → ⊥) → IsAscendingTo (i + 1) x y
IsAscendingTo-none i x y to none = record {
  placement = to.placement;
  size = to.size;
  rises = to.rises;
  below = λ t below. omega (arith, to.below t below);
  places = to.places;
  all = λ t below less.
      elim (cases_lt (get_or x.facilities t 0) i) [
        | inl before ↦ to.all t below before
        | inr past ↦ absurd (none (get_or x.places t 0) (record { turn = t; placed = below; facility = omega (arith, past, less); location = refl }))
      ];
}

-- once i has reached the size, y places what x places, ascending
pub IsAscendingOf-all : (i : ℕ) (x y : Placement) → IsPlacement x → x.size ≤ i → IsAscendingTo i x y → IsAscendingOf x y
IsAscendingOf-all i x y h past to = record {
  root = record { placement = to.placement; size = to.size; ascending = to.rises };
  places = to.places;
  all = λ t below. to.all t below (omega (arith, h.facilities.within t below, past));
}
