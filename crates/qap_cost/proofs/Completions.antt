-- What completes a node by a matching is a permutation.
use Rattle.std.proofs.Common.{◌≡◌, ℕ, ◌<◌, ◌⊎◌, inl, inr, List, length, get_or, map, refl, sym, ap, subst, ◌∙◌, true, false, arith}
use Rattle.std.specs.Prelude.{Bool, nat_eq, slice_index}
use Rattle.std.specs.List.{list_any}
use Rattle.std.proofs.lemmas.Bool.{false≢true}
use Rattle.std.proofs.lemmas.List.{get_or-map}
use Rattle.qap_cost.proofs.Picks.{any_from_place, place_from_any}
use Rattle.qap_cost.proofs.Placements.{ListsFree-free_below}
use Rattle.qap_cost.specs.Bijection.{AreDifferent, IsPerm}
use Rattle.qap_cost.specs.Placement.{Placement, IsPlacement, ListsFree, Completes, free_facilities, free_locations}
use Rattle.qap_cost.specs.Completion.{IsCompletion, IsMatching, Puts}

-- free numbers in a list are different
pub different_listed : (n : ℕ) (taken free : List ℕ) → ListsFree n taken free → AreDifferent n free
different_listed n taken free h = record {
  within = λ i less. (h.each i less).within;
  distinct = λ i j less_i less_j same.
      let none_below : i < j → ⊥ = λ less. (let rises = h.ascending i j less less_j in omega arith) in
      let none_above : j < i → ⊥ = λ less. (let rises = h.ascending j i less less_i in omega arith) in
      grind (arith, none_below, none_above);
}

facilities_listed : (x : Placement) → IsPlacement x → ListsFree x.size x.facilities (free_facilities x)
facilities_listed x h = ListsFree-free_below x.size x.facilities h.facilities

locations_listed : (x : Placement) → IsPlacement x → ListsFree x.size x.places (free_locations x)
locations_listed x h = ListsFree-free_below x.size x.places h.places

-- what putting the placed and then the free ones yields
pub completion_is : (x : Placement) (q zeros mid p matched : List ℕ) → IsPlacement x → IsMatching x q → length zeros ≡ x.size → matched ≡ map (slice_index (free_locations x)) q
    → Puts x.facilities x.places zeros mid → Puts (free_facilities x) matched mid p → IsCompletion x q p
completion_is x q zeros mid p matched h m long matched_is first second =
    let free = facilities_listed x h in
    record {
      same_size = second.long ∙ first.long ∙ long;
      placed = λ t less.
          second.kept (get_or x.facilities t 0) (λ r below e. (free.each r below).untaken t less (sym e))
          ∙ first.put t less;
      free = λ r less.
          let inside : r < length q = (let count = m.count in omega arith) in
          second.put r less ∙ ap (λ (xs : List ℕ). get_or xs r 0) matched_is ∙ get_or-map (slice_index (free_locations x)) q r 0 0 inside;
    }

-- a facility is placed, or it is one of the free ones
record IsPlacedAt (x : Placement) (i : ℕ) : Type 0 where
  turn : ℕ
  below : turn < length x.facilities
  is : get_or x.facilities turn 0 ≡ i

record IsFreeAt (x : Placement) (i : ℕ) : Type 0 where
  number : ℕ
  below : number < length (free_facilities x)
  is : get_or (free_facilities x) number 0 ≡ i

placed_or_free : (x : Placement) (i : ℕ) → IsPlacement x → i < x.size → IsPlacedAt x i ⊎ IsFreeAt x i
placed_or_free x i h less = by_test (list_any (nat_eq i) x.facilities) refl
  where
    by_test : (b : Bool) → list_any (nat_eq i) x.facilities ≡ b → IsPlacedAt x i ⊎ IsFreeAt x i
    by_test true e = let at = place_from_any x.facilities i e in inl (record { turn = at.0; below = at.1; is = at.2 })
    by_test false e =
        let free = (facilities_listed x h).all i (record { within = less; untaken = λ t below same. false≢true (sym e ∙ any_from_place x.facilities i t below same) }) in
        inr (record { number = free.0; below = free.1; is = free.2 })

-- what a completion has at a facility
value_placed : (x : Placement) (q p : List ℕ) (i : ℕ) → IsCompletion x q p → (at : IsPlacedAt x i) → get_or p i 0 ≡ get_or x.places at.turn 0
value_placed x q p i c at = ap (λ (j : ℕ). get_or p j 0) (sym at.is) ∙ c.placed at.turn at.below

value_free : (x : Placement) (q p : List ℕ) (i : ℕ) → IsCompletion x q p → (at : IsFreeAt x i) → get_or p i 0 ≡ get_or (free_locations x) (get_or q at.number 0) 0
value_free x q p i c at = ap (λ (j : ℕ). get_or p j 0) (sym at.is) ∙ c.free at.number at.below

-- a matching takes a free facility's number to a free location's
pub matched_below : (x : Placement) (q : List ℕ) (r : ℕ) → IsPlacement x → IsMatching x q → r < length (free_facilities x) → get_or q r 0 < length (free_locations x)
matched_below x q r h m less =
    let count = m.count in
    let inside : r < length q = omega arith in
    let within = m.bijection.within r inside in
    let rows = (facilities_listed x h).count in
    let columns = (locations_listed x h).count in
    let paired = h.paired in
    omega arith

completion_within : (x : Placement) (q p : List ℕ) (i : ℕ) → IsPlacement x → IsMatching x q → IsCompletion x q p → IsPlacedAt x i ⊎ IsFreeAt x i → get_or p i 0 < x.size
completion_within x q p i h m c (inl at) =
    let value = value_placed x q p i c at in
    let paired = h.paired in
    let below = at.below in
    let within = h.places.within at.turn (omega arith) in
    omega arith
completion_within x q p i h m c (inr at) =
    let value = value_free x q p i c at in
    let within = ((locations_listed x h).each (get_or q at.number 0) (matched_below x q at.number h m at.below)).within in
    omega arith

-- free locations are different
free_different : (x : Placement) (a b : ℕ) → IsPlacement x → a < length (free_locations x) → b < length (free_locations x) → get_or (free_locations x) a 0 ≡ get_or (free_locations x) b 0 → a ≡ b
free_different x a b h below_a below_b same =
    let up = (locations_listed x h).ascending in
    let none_below : a < b → ⊥ = λ less. (let rises = up a b less below_b in omega arith) in
    let none_above : b < a → ⊥ = λ less. (let rises = up b a less below_a in omega arith) in
    grind (arith, none_below, none_above)

completion_distinct : (x : Placement) (q p : List ℕ) (i j : ℕ) → IsPlacement x → IsMatching x q → IsCompletion x q p → IsPlacedAt x i ⊎ IsFreeAt x i → IsPlacedAt x j ⊎ IsFreeAt x j → get_or p i 0 ≡ get_or p j 0 → i ≡ j
completion_distinct x q p i j h m c (inl a) (inl b) same =
    let paired = h.paired in
    let below_a = a.below in
    let below_b = b.below in
    let turns = h.places.distinct a.turn b.turn (omega arith) (omega arith) (sym (value_placed x q p i c a) ∙ same ∙ value_placed x q p j c b) in
    sym a.is ∙ ap (λ (t : ℕ). get_or x.facilities t 0) turns ∙ b.is
completion_distinct x q p i j h m c (inl a) (inr b) same =
    let paired = h.paired in
    let below = a.below in
    absurd (((locations_listed x h).each (get_or q b.number 0) (matched_below x q b.number h m b.below)).untaken a.turn (omega arith)
    (sym (value_placed x q p i c a) ∙ same ∙ value_free x q p j c b))
completion_distinct x q p i j h m c (inr a) (inl b) same =
    let paired = h.paired in
    let below = b.below in
    absurd (((locations_listed x h).each (get_or q a.number 0) (matched_below x q a.number h m a.below)).untaken b.turn (omega arith)
    (sym (value_placed x q p j c b) ∙ sym same ∙ value_free x q p i c a))
completion_distinct x q p i j h m c (inr a) (inr b) same =
    let count = m.count in
    let below_a = a.below in
    let below_b = b.below in
    let columns = free_different x (get_or q a.number 0) (get_or q b.number 0) h (matched_below x q a.number h m a.below) (matched_below x q b.number h m b.below)
    (sym (value_free x q p i c a) ∙ same ∙ value_free x q p j c b) in
    let rows = m.bijection.distinct a.number b.number (omega arith) (omega arith) columns in
    sym a.is ∙ ap (λ (r : ℕ). get_or (free_facilities x) r 0) rows ∙ b.is

-- what completes a node by a matching is a permutation
pub completion_perm : (x : Placement) (q p : List ℕ) → IsPlacement x → IsMatching x q → IsCompletion x q p → IsPerm p
completion_perm x q p h m c =
    let size = c.same_size in
    let positive = h.positive in
    let small = h.small in
    record {
      bijection = record {
        within = λ i less. (let within = completion_within x q p i h m c (placed_or_free x i h (omega arith)) in omega arith);
        distinct = λ i j less_i less_j same. completion_distinct x q p i j h m c (placed_or_free x i h (omega arith)) (placed_or_free x j h (omega arith)) same;
      };
      positive = omega arith;
      small = omega arith;
    }

-- the same, with the lists that a program puts
pub completion_put : (x : Placement) (q zeros mid p fs ks free matched locations : List ℕ) → IsPlacement x → IsMatching x q → length zeros ≡ x.size → fs ≡ x.facilities → ks ≡ x.places → free ≡ free_facilities x → locations ≡ free_locations x → matched ≡ map (slice_index locations) q
    → Puts fs ks zeros mid → Puts free matched mid p → IsCompletion x q p
completion_put x q zeros mid p fs ks free matched locations h m long fs_is ks_is free_is locations_are matched_is first second =
    completion_is x q zeros mid p matched h m long (matched_is ∙ ap (λ (xs : List ℕ). map (slice_index xs) q) locations_are)
    (subst (λ (xs : List ℕ). Puts x.facilities xs zeros mid) ks_is (subst (λ (xs : List ℕ). Puts xs ks zeros mid) fs_is first))
    (subst (λ (xs : List ℕ). Puts xs matched mid p) free_is second)

-- and it completes the node
pub completion_completes : (x : Placement) (q p : List ℕ) → IsPlacement x → IsMatching x q → IsCompletion x q p → Completes x p
completion_completes x q p h m c = record { bijection = (completion_perm x q p h m c).bijection; same_size = c.same_size; agrees = c.placed }

-- the free facilities are distinct
pub free_facilities_distinct : (x : Placement) (n : ℕ) (free : List ℕ) → IsPlacement x → n ≡ x.size → free ≡ free_facilities x → AreDifferent n free
free_facilities_distinct x n free h size listed =
    subst (λ (m : ℕ). AreDifferent m free) (sym size) (subst (AreDifferent x.size) (sym listed) (different_listed x.size x.facilities (free_facilities x) (facilities_listed x h)))
