-- The tuples of a tree stand in the order of their nodes' lists, and one list of tuples is in that order.
use Rattle.std.proofs.Common.{◌≡◌, ℕ, zero, suc, ◌≤◌, ◌<◌, ◌⊎◌, inl, inr, Bool, true, false, List, [], ◌∷◌, ◌++◌, length, get_or, ℤ, pos, ◌<ℤ◌, Ordering, Less, Equal, Greater, refl, sym, ap, ap₂, ◌∙◌, arith, append_assoc, append-nil}
use Rattle.std.specs.Cmp.{int_ranks}
use Rattle.std.specs.Cmp.Lexicographic.{slice_cmp}
use Rattle.std.specs.List.{sum_by}
use Rattle.std.specs.Ordering.{MatchOrdering, int_cmp, is_lt, ordering_then}
use Rattle.std.proofs.lemmas.Bool.{false≢true}
use Rattle.std.proofs.lemmas.Int.{ints}
use Rattle.std.proofs.lemmas.List.Sums.{sum_by-cons}
use Rattle.qap_cost.proofs.Placements.{ListsFree-free_below}
use Rattle.qap_cost.specs.Placement.{Placement, IsPlacement, free_locations, placing}
use Rattle.qap_cert.specs.Tree.{Node, split, bound, Nodes, no_nodes, node}
use Rattle.space_txn.specs.Content.{SameItems}
use Rattle.tuple_match.specs.FieldValue.{FieldValue}
use Rattle.qap_search.specs.Certificate.TreeBuilding.{AnyDuals}
use Rattle.number_list.proofs.Turns.{by_turns-push}
use Rattle.qap_search.specs.Tuples.Piece.{node_list, split_tuple, closed_tuple, pieces, pieces_of_all}
use Rattle.qap_search.specs.Law.SearchTree.{IsTree, AreTrees, searched, searched_all}
use Rattle.qap_search.proofs.CertificateLemmas.Certificates.{children_placed}
use Rattle.qap_search.proofs.TupleLemmas.TupleReadings.{found_in, is_it, is_it-found, is_it-itself, list_at}

-- the node's list of a tuple
abbrev pub key : List FieldValue → List ℤ
key t = list_at 1 t

abbrev is_less : List FieldValue → List FieldValue → Bool
is_less t s = is_lt (slice_cmp int_cmp (key t) (key s))

-- the list of t's node stands before that of s
abbrev pub Before : List FieldValue → List FieldValue → Type 0
Before t s = is_less t s ≡ true

-- the list of t's node doesn't stand behind that of s
abbrev pub NotAfter : List FieldValue → List FieldValue → Type 0
NotAfter t s = is_less s t ≡ false

-- each tuple is so related to those behind it
abbrev pub Rises : (List FieldValue → List FieldValue → Type 0) → List (List FieldValue) → Type 0
Rises R [] = Unit {0}
Rises R (x ∷ xs) = ((y : List FieldValue) → 1 ≤ sum_by (is_it y) xs → R x y) × Rises R xs

Rises-append : (R : List FieldValue → List FieldValue → Type 0) (xs ys : List (List FieldValue)) → Rises R xs → Rises R ys → ((x y : List FieldValue) → 1 ≤ sum_by (is_it x) xs → 1 ≤ sum_by (is_it y) ys → R x y) → Rises R (xs ++ ys)
Rises-append R [] ys h k across = k
Rises-append R (x ∷ xs) ys h k across = (
  (λ y found. elim (found_in (is_it y) xs ys found) as
      (λ (_ : (1 ≤ sum_by (is_it y) xs) ⊎ (1 ≤ sum_by (is_it y) ys)). R x y) [
        | inl here ↦ h.0 y here
        | inr there ↦ across x y (let parts = sum_by-cons (is_it x) x xs in let itself = is_it-itself x in omega arith) there
      ]),
  Rises-append R xs ys h.1 k (λ a b fa fb. across a b (let parts = sum_by-cons (is_it a) x xs in omega arith) fb),
)

-- of two lists with the same tuples, of which both are in order and one has no key twice, the first tuples are the same
same_first : (x y : List FieldValue) (xs ys : List (List FieldValue)) → Rises NotAfter (x ∷ xs) → Rises Before (y ∷ ys) → SameItems (x ∷ xs) (y ∷ ys) → x ≡ y
same_first x y xs ys h k same =
    let in_ys : 1 ≤ sum_by (is_it x) ((y ∷ []) ++ ys) =
    let parts = sum_by-cons (is_it x) x xs in
    let itself = is_it-itself x in
    let weight = same (is_it x) in
    omega arith in
    let in_xs : 1 ≤ sum_by (is_it y) ((x ∷ []) ++ xs) =
    let parts = sum_by-cons (is_it y) y ys in
    let itself = is_it-itself y in
    let weight = same (is_it y) in
    omega arith in
    elim (found_in (is_it x) (y ∷ []) ys in_ys) as
    (λ (_ : (1 ≤ sum_by (is_it x) (y ∷ [])) ⊎ (1 ≤ sum_by (is_it x) ys)). x ≡ y) [
      | inl first ↦ sym (is_it-found x y (omega arith))
      | inr later ↦
          elim (found_in (is_it y) (x ∷ []) xs in_xs) as
          (λ (_ : (1 ≤ sum_by (is_it y) (x ∷ [])) ⊎ (1 ≤ sum_by (is_it y) xs)). x ≡ y) [
            | inl first ↦ is_it-found y x (omega arith)
            | inr other ↦ absurd (false≢true (sym (h.0 y other) ∙ k.0 x later))
          ]
    ]

-- two lists of the same tuples, of which one is in order and the other one strictly so, are one list
pub same_list : (xs ys : List (List FieldValue)) → Rises NotAfter xs → Rises Before ys → SameItems xs ys → xs ≡ ys
same_list [] [] h k same = refl
same_list [] (y ∷ ys) h k same =
    let weight = same (is_it y) in
    let parts = sum_by-cons (is_it y) y ys in
    let itself = is_it-itself y in
    absurd (omega arith)
same_list (x ∷ xs) [] h k same =
    let weight = same (is_it x) in
    let parts = sum_by-cons (is_it x) x xs in
    let itself = is_it-itself x in
    absurd (omega arith)
same_list (x ∷ xs) (y ∷ ys) h k same =
    let first = same_first x y xs ys h k same in
    ap₂ (λ (t : List FieldValue) (ts : List (List FieldValue)). t ∷ ts) first
    (same_list xs ys h.1 k.1 (λ f.
    let weight = same f in
    let left = sum_by-cons f x xs in
    let right = sum_by-cons f y ys in
    let one = ap f first in
    omega arith))

-- numbers and lists compared
int_same : (z : ℤ) → int_cmp z z ≡ Equal
int_same z = by_rank (int_cmp z z) (int_ranks z z)
  where
    by_rank : (r : Ordering) → MatchOrdering r (z <ℤ z) (z ≡ z) (z <ℤ z) → r ≡ Equal
    by_rank Less h = absurd (omega (arith, ints))
    by_rank Equal h = refl
    by_rank Greater h = absurd (omega (arith, ints))

int_less : (k l : ℕ) → k < l → int_cmp (pos k) (pos l) ≡ Less
int_less k l less = by_rank (int_cmp (pos k) (pos l)) (int_ranks (pos k) (pos l))
  where
    by_rank : (r : Ordering) → MatchOrdering r (pos k <ℤ pos l) (pos k ≡ pos l) (pos l <ℤ pos k) → r ≡ Less
    by_rank Less h = refl
    by_rank Equal h = absurd (omega (arith, ints))
    by_rank Greater h = absurd (omega (arith, ints))

same_begin : (p a b : List ℤ) → slice_cmp int_cmp (p ++ a) (p ++ b) ≡ slice_cmp int_cmp a b
same_begin [] a b = refl
same_begin (z ∷ p) a b = ap (λ (o : Ordering). ordering_then o (slice_cmp int_cmp (p ++ a) (p ++ b))) (int_same z) ∙ same_begin p a b

-- a list stands before those that it begins
begin_before : (p r : List ℤ) (z : ℤ) → is_lt (slice_cmp int_cmp p (p ++ (z ∷ r))) ≡ true
begin_before p r z =
    ap is_lt (ap (λ (q : List ℤ). slice_cmp int_cmp q (p ++ (z ∷ r))) (sym (append-nil p)) ∙ same_begin p [] (z ∷ r))

-- lists that part at a location
parted_before : (p r q : List ℤ) (f k l : ℕ) → k < l → is_lt (slice_cmp int_cmp (p ++ (pos f ∷ pos k ∷ r)) (p ++ (pos f ∷ pos l ∷ q))) ≡ true
parted_before p r q f k l less =
    ap is_lt (same_begin p (pos f ∷ pos k ∷ r) (pos f ∷ pos l ∷ q)
    ∙ ap (λ (o : Ordering). ordering_then o (slice_cmp int_cmp (pos k ∷ r) (pos l ∷ q))) (int_same (pos f))
    ∙ ap (λ (o : Ordering). ordering_then o (slice_cmp int_cmp r q)) (int_less k l less))

-- a child's list is its parent's, with facility and location behind it
pub node_list-placing : (x : Placement) (f k : ℕ) → length x.places ≡ length x.facilities → node_list (placing x f k) ≡ node_list x ++ (pos f ∷ pos k ∷ [])
node_list-placing x f k h = by_turns-push x.facilities x.places f k h

-- the list begins with the node's
abbrev Begins : Placement → List ℤ → Type 0
Begins y xs = (r : List ℤ) × (xs ≡ node_list y ++ r)

-- the list is of one of the children from number c on, or below it
abbrev BeginsBelow : Placement → ℕ → List ℕ → List ℤ → Type 0
BeginsBelow y f ks xs = (i : ℕ) × (i < length ks) × ((r : List ℤ) × (xs ≡ node_list y ++ (pos f ∷ pos (get_or ks i 0) ∷ r)))

child_begins : (y : Placement) (f k : ℕ) (xs : List ℤ) → length y.places ≡ length y.facilities → Begins (placing y f k) xs → (r : List ℤ) × (xs ≡ node_list y ++ (pos f ∷ pos k ∷ r))
child_begins y f k xs paired b =
    (b.0, b.1 ∙ ap (λ (p : List ℤ). p ++ b.0) (node_list-placing y f k paired) ∙ append_assoc (node_list y) (pos f ∷ pos k ∷ []) b.0)

mutual
  -- the tuples of a tree at a node have lists that begin with the node's
  keyed : (s : Node) (y : Placement) → IsPlacement y → IsTree AnyDuals y (searched s) → (w : List FieldValue) → 1 ≤ sum_by (is_it w) (pieces y (searched s)) → Begins y (key w)
  keyed (bound u v) y placed h w found =
      ([], sym (ap key (is_it-found w (closed_tuple y u v) (omega arith))) ∙ sym (append-nil (node_list y)))
  keyed (split f children) y placed h w found =
      elim (found_in (is_it w) (split_tuple y f ∷ []) (pieces_of_all y f (free_locations y) (searched_all children)) found) as
      (λ (_ : (1 ≤ sum_by (is_it w) (split_tuple y f ∷ [])) ⊎ (1 ≤ sum_by (is_it w) (pieces_of_all y f (free_locations y) (searched_all children)))). Begins y (key w)) [
        | inl here ↦ ([], sym (ap key (is_it-found w (split_tuple y f) (omega arith))) ∙ sym (append-nil (node_list y)))
        | inr there ↦
            let below = keyed_below children y f (free_locations y) (children_placed y f placed h.1) placed h.2 w there in
            (pos f ∷ pos (get_or (free_locations y) below.0 0) ∷ below.2.0, below.2.1)
      ]

  keyed_below : (ss : Nodes) (y : Placement) (f : ℕ) (ks : List ℕ) → ((j : ℕ) → j < length ks → IsPlacement (placing y f (get_or ks j 0))) → IsPlacement y → AreTrees AnyDuals y f ks (searched_all ss) → (w : List FieldValue) → 1 ≤ sum_by (is_it w) (pieces_of_all y f ks (searched_all ss)) → BeginsBelow y f ks (key w)
  keyed_below no_nodes y f [] placed at h w found = absurd (omega arith)
  keyed_below no_nodes y f (k ∷ ks) placed at h w found = absurd h
  keyed_below (node s rest) y f [] placed at h w found = absurd h
  keyed_below (node s rest) y f (k ∷ ks) placed at h w found =
      elim (found_in (is_it w) (pieces (placing y f k) (searched s)) (pieces_of_all y f ks (searched_all rest)) found) as
      (λ (_ : (1 ≤ sum_by (is_it w) (pieces (placing y f k) (searched s))) ⊎ (1 ≤ sum_by (is_it w) (pieces_of_all y f ks (searched_all rest)))). BeginsBelow y f (k ∷ ks) (key w)) [
        | inl here ↦ (zero, omega arith, child_begins y f k (key w) at.paired (keyed s (placing y f k) (placed zero (omega arith)) h.0 w here))
        | inr there ↦
            let below = keyed_below rest y f ks (λ j less. placed (suc j) (omega arith)) at h.1 w there in
            (suc below.0, let less = below.1 in omega arith, below.2)
      ]

-- the locations rise
abbrev Ascends : List ℕ → Type 0
Ascends ks = (i j : ℕ) → i < j → j < length ks → get_or ks i 0 < get_or ks j 0

mutual
  -- so they stand in order, no two of one list
  pub pieces_rise : (s : Node) (y : Placement) → IsPlacement y → IsTree AnyDuals y (searched s) → Rises Before (pieces y (searched s))
  pieces_rise (bound u v) y placed h = ((λ w found. absurd (omega arith)), tt)
  pieces_rise (split f children) y placed h =
      let ks = free_locations y in
      let children_at = children_placed y f placed h.1 in (
        (λ w found.
            let below = keyed_below children y f ks children_at placed h.2 w found in
            ap (λ (xs : List ℤ). is_lt (slice_cmp int_cmp (node_list y) xs)) below.2.1
            ∙ begin_before (node_list y) (pos (get_or ks below.0 0) ∷ below.2.0) (pos f)),
        all_rise children y f ks children_at placed h.2 (ListsFree-free_below y.size y.places placed.places).ascending,
      )

  all_rise : (ss : Nodes) (y : Placement) (f : ℕ) (ks : List ℕ) → ((j : ℕ) → j < length ks → IsPlacement (placing y f (get_or ks j 0))) → IsPlacement y → AreTrees AnyDuals y f ks (searched_all ss) → Ascends ks → Rises Before (pieces_of_all y f ks (searched_all ss))
  all_rise no_nodes y f [] placed at h up = tt
  all_rise no_nodes y f (k ∷ ks) placed at h up = tt
  all_rise (node s rest) y f [] placed at h up = tt
  all_rise (node s rest) y f (k ∷ ks) placed at h up =
      let rest_placed : (j : ℕ) → j < length ks → IsPlacement (placing y f (get_or ks j 0)) = λ j less. placed (suc j) (omega arith) in
      Rises-append Before (pieces (placing y f k) (searched s)) (pieces_of_all y f ks (searched_all rest))
      (pieces_rise s (placing y f k) (placed zero (omega arith)) h.0)
      (all_rise rest y f ks rest_placed at h.1 (λ i j less within. up (suc i) (suc j) (omega arith) (omega arith)))
      (λ a b found_a found_b.
      let first = child_begins y f k (key a) at.paired (keyed s (placing y f k) (placed zero (omega arith)) h.0 a found_a) in
      let later = keyed_below rest y f ks rest_placed at h.1 b found_b in
      let within = later.1 in
      ap₂ (λ (p q : List ℤ). is_lt (slice_cmp int_cmp p q)) first.1 later.2.1
      ∙ parted_before (node_list y) first.0 later.2.0 f k (get_or ks later.0 0) (up zero (suc later.0) (omega arith) (omega arith)))
