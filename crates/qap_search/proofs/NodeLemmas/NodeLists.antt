-- A node that is read from its list, pair by pair.
use Rattle.std.proofs.Common.{◌≡◌, ◌≢◌, ℕ, zero, suc, ◌+◌, ◌*◌, ◌<◌, ◌≤◌, List, [], ◌∷◌, ◌++◌, length, get_or, take, ℤ, pos, refl, sym, ap, ap₂, subst, ◌∙◌, arith, append_assoc, length-append, length-take-le, get_or-take, take_all}
use Rattle.std.proofs.lemmas.List.{take_more}
use Rattle.qap_cost.specs.Placement.{Placement, IsPlacement, IsFreeFacility, IsFreeLocation, placing, root_of}
use Rattle.qap_search.specs.Certificate.TreeBuilding.{BeginsByTurns}
use Rattle.number_list.specs.Turns.{by_turns}
use Rattle.qap_search.specs.Tuples.Piece.{node_list}
use Rattle.qap_cost.proofs.Placements.{IsPlacement-depth}
use Rattle.qap_search.specs.Node.NodeList.{IsListOf, IsNextOf, IsReadFrom}
use Rattle.qap_search.proofs.CertificateLemmas.Keys.{node_list-placing}
use Rattle.qap_search.proofs.TupleLemmas.TupleReadings.{natural}

-- a node's list has two numbers for each facility
pub length-by_turns : (fs ks : List ℕ) → length ks ≡ length fs → length (by_turns fs ks) ≡ 2 * length fs
length-by_turns [] [] h = omega arith
length-by_turns [] (l ∷ ks) h = absurd (omega arith)
length-by_turns (g ∷ fs) [] h = absurd (omega arith)
length-by_turns (g ∷ fs) (l ∷ ks) h = let rest = length-by_turns fs ks (omega arith) in omega arith

-- it alternates the facilities and their locations
pub begins-by_turns : (fs ks : List ℕ) → length ks ≡ length fs → BeginsByTurns fs ks (by_turns fs ks)
begins-by_turns [] ks h t less = absurd (omega arith)
begins-by_turns (g ∷ fs) [] h t less = absurd (omega arith)
begins-by_turns (g ∷ fs) (l ∷ ks) h zero less = (refl, refl)
begins-by_turns (g ∷ fs) (l ∷ ks) h (suc t) less =
    let rest = begins-by_turns fs ks (omega arith) t (omega arith) in
    let at_f : 2 * suc t ≡ suc (suc (2 * t)) = omega arith in
    let at_k : 2 * suc t + 1 ≡ suc (suc (2 * t + 1)) = omega arith in
    let list = by_turns (g ∷ fs) (l ∷ ks) in
    (ap (λ (j : ℕ). get_or list j (pos 0)) at_f ∙ rest.0, ap (λ (j : ℕ). get_or list j (pos 0)) at_k ∙ rest.1)

-- the first t pairs have been placed, and a node whose list this is begins with them
pub record HasPlaced (n : ℕ) (list : List ℤ) (node : Placement) (t : ℕ) : Type 0 where
  pub placed : IsPlacement node
  pub size : node.size ≡ n
  pub depth : length node.facilities ≡ t
  pub is : node_list node ≡ take (2 * t) list
  pub only : (x : Placement) → IsPlacement x → x.size ≡ n → node_list x ≡ list → (node.facilities ≡ take t x.facilities) × (node.places ≡ take t x.places)

-- before the first pair nothing is placed
pub HasPlaced-none : (n : ℕ) (list : List ℤ) → IsPlacement (root_of n) → HasPlaced n list (root_of n) 0
HasPlaced-none n list h = record { placed = h; size = refl; depth = refl; is = refl; only = λ x placed size is. (refl, refl) }

-- what a node has at its turn t is what its list has there
list_long : (x : Placement) (list : List ℤ) → IsPlacement x → node_list x ≡ list → length list ≡ 2 * length x.facilities
list_long x list h is = sym (ap length is) ∙ length-by_turns x.facilities x.places h.paired

pair_at : (x : Placement) (list : List ℤ) (t : ℕ) → IsPlacement x → node_list x ≡ list → t < length x.facilities → (get_or list (2 * t) (pos 0) ≡ pos (get_or x.facilities t 0)) × (get_or list (2 * t + 1) (pos 0) ≡ pos (get_or x.places t 0))
pair_at x list t h is less =
    let begins = begins-by_turns x.facilities x.places h.paired t less in
    (ap (λ (xs : List ℤ). get_or xs (2 * t) (pos 0)) (sym is) ∙ begins.0, ap (λ (xs : List ℤ). get_or xs (2 * t + 1) (pos 0)) (sym is) ∙ begins.1)

take_two : (list : List ℤ) (t : ℕ) (a b : ℤ) → 2 * t + 1 < length list → get_or list (2 * t) (pos 0) ≡ a → get_or list (2 * t + 1) (pos 0) ≡ b → take (2 * (t + 1)) list ≡ take (2 * t) list ++ (a ∷ b ∷ [])
take_two list t a b less first second =
    let count : 2 * (t + 1) ≡ 2 * t + 1 + 1 = omega arith in
    ap (λ (j : ℕ). take j list) count
    ∙ take_more list (2 * t + 1) (pos 0) less
    ∙ ap₂ (λ (xs : List ℤ) (z : ℤ). xs ++ z ∷ []) (take_more list (2 * t) (pos 0) (omega arith) ∙ ap (λ (z : ℤ). take (2 * t) list ++ z ∷ []) first) second
    ∙ append_assoc (take (2 * t) list) (a ∷ []) (b ∷ [])

-- with the next two numbers placed, one pair more is
pub HasPlaced-more : (n : ℕ) (list : List ℤ) (node next : Placement) (t : ℕ) → HasPlaced n list node t → 2 * t + 1 < length list → IsNextOf node (get_or list (2 * t) (pos 0)) (get_or list (2 * t + 1) (pos 0)) next → HasPlaced n list next (t + 1)
HasPlaced-more n list node next t h less s =
    let made : HasPlaced n list (placing node s.f s.k) (t + 1) = record {
      placed = subst IsPlacement s.is s.placement;
      size = h.size;
      depth = let depth = h.depth in let more = length-append node.facilities (s.f ∷ []) in omega arith;
      is =
          node_list-placing node s.f s.k h.placed.paired
          ∙ ap (λ (xs : List ℤ). xs ++ (pos s.f ∷ pos s.k ∷ [])) h.is
          ∙ sym (take_two list t (pos s.f) (pos s.k) less s.facility_is s.location_is);
      only = λ x placed size is.
          let long = list_long x list placed is in
          let paired = placed.paired in
          let inside : t < length x.facilities = omega arith in
          let pair = pair_at x list t placed is inside in
          let before = h.only x placed size is in
          let same_f : s.f ≡ get_or x.facilities t 0 = ap natural (sym s.facility_is ∙ pair.0) in
          let same_k : s.k ≡ get_or x.places t 0 = ap natural (sym s.location_is ∙ pair.1) in (
            ap₂ (λ (xs : List ℕ) (j : ℕ). xs ++ j ∷ []) before.0 same_f ∙ sym (take_more x.facilities t 0 inside),
            ap₂ (λ (xs : List ℕ) (j : ℕ). xs ++ j ∷ []) before.1 same_k ∙ sym (take_more x.places t 0 (omega arith)),
          );
    } in
    subst (λ (y : Placement). HasPlaced n list y (t + 1)) (sym s.is) made

-- the next of a node that begins so is free
next_free : (taken xs : List ℕ) (n t : ℕ) → taken ≡ take t xs → ((i : ℕ) → i < length xs → get_or xs i 0 < n) → ((i j : ℕ) → i < length xs → j < length xs → get_or xs i 0 ≡ get_or xs j 0 → i ≡ j) → t < length xs → (i : ℕ) → i < length taken → get_or taken i 0 ≢ get_or xs t 0
next_free taken xs n t is within distinct less i below same =
    let long : length (take t xs) ≡ t = length-take-le t xs (omega arith) in
    let count = ap length is in
    let inside : i < t = omega arith in
    let at : get_or taken i 0 ≡ get_or xs i 0 = ap (λ (ys : List ℕ). get_or ys i 0) is ∙ get_or-take t xs i 0 inside in
    let one = distinct i t (omega arith) less (sym at ∙ same) in
    omega arith

-- where the next two numbers are not a free facility and a free location, the list is no node's
pub none_next : (n : ℕ) (list : List ℤ) (node : Placement) (t : ℕ) → HasPlaced n list node t → 2 * t + 1 < length list → ((f k : ℕ) → IsFreeFacility node f → IsFreeLocation node k → get_or list (2 * t) (pos 0) ≡ pos f → get_or list (2 * t + 1) (pos 0) ≢ pos k) → (x : Placement) → IsPlacement x → x.size ≡ n → node_list x ≢ list
none_next n list node t h less none x placed size is =
    let long = list_long x list placed is in
    let paired = placed.paired in
    let inside : t < length x.facilities = omega arith in
    let there : t < length x.places = omega arith in
    let pair = pair_at x list t placed is inside in
    let before = h.only x placed size is in
    let same = h.size in
    let within_f = placed.facilities.within t inside in
    let within_k = placed.places.within t there in
    none (get_or x.facilities t 0) (get_or x.places t 0)
    (record { within = omega arith; untaken = next_free node.facilities x.facilities x.size t before.0 placed.facilities.within placed.facilities.distinct inside })
    (record { within = omega arith; untaken = next_free node.places x.places x.size t before.1 placed.places.within placed.places.distinct there })
    pair.0 pair.1

-- a list of odd length is no node's
pub none_odd : (n : ℕ) (list : List ℤ) → ((m : ℕ) → length list ≢ 2 * m) → (x : Placement) → IsPlacement x → x.size ≡ n → node_list x ≢ list
none_odd n list odd x placed size is = odd (length x.facilities) (list_long x list placed is)

-- once all pairs have been placed, the node is the one whose list this is
pub all_placed : (n : ℕ) (list : List ℤ) (node : Placement) (t : ℕ) → HasPlaced n list node t → length list ≡ 2 * t → IsReadFrom n list node
all_placed n list node t h long = record { placement = h.placed; size = h.size; is = h.is ∙ take_all (2 * t) list (omega arith) }

-- the list of a node is short, and so is that of its child, which begins with it
pub short_list : (x : Placement) (list : List ℤ) → IsListOf x list → length list ≤ 512
short_list x list h =
    let long = list_long x list h.placement h.is in
    let depth = IsPlacement-depth x h.placement in
    let small = h.placement.small in
    omega arith

-- the list of a node with a facility and a location behind it is the list of the child
pub child_list : (x : Placement) (list child : List ℤ) (f k : ℕ) → IsListOf x list → child ≡ list ++ (pos f ∷ pos k ∷ []) → child ≡ node_list (placing x f k)
child_list x list child f k h is = is ∙ ap (λ (xs : List ℤ). xs ++ (pos f ∷ pos k ∷ [])) (sym h.is) ∙ sym (node_list-placing x f k h.placement.paired)

-- such a list has at most 514 numbers
pub short_child : (x : Placement) (list child : List ℤ) (f k : ℕ) → IsListOf x list → child ≡ list ++ (pos f ∷ pos k ∷ []) → length child ≤ 514
short_child x list child f k h is =
    let count = ap length is in
    let both = length-append list (pos f ∷ pos k ∷ []) in
    let short = short_list x list h in
    omega arith
