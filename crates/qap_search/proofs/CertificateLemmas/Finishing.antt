-- From the pieces of a search to its certificate, and back.
use Rattle.std.proofs.Common.{◌≡◌, ◌≢◌, ℕ, zero, suc, ◌≤◌, ◌<◌, ◌⊎◌, inl, inr, Bool, true, false, List, [], ◌∷◌, ◌++◌, length, get_or, map, reverse, ℤ, pos, SomeIndex, Ordering, Less, Equal, Greater, refl, sym, ap, ap₂, subst, ◌∙◌, arith, append-nil, nat_eq, eqb-true}
use Rattle.std.specs.Cmp.{int_cmp_total}
use Rattle.std.specs.Cmp.Lexicographic.{lists_total, slice_cmp}
use Rattle.std.specs.List.{sum_by}
use Rattle.std.specs.List.Sorted.{IsPermutation}
use Rattle.std.specs.Ordering.{int_cmp, is_lt, ordering_reverse}
use Rattle.std.proofs.lemmas.Bool.{false≢true}
use Rattle.std.proofs.lemmas.List.{get_or-map, length-map}
use Rattle.std.proofs.lemmas.List.Sorted.{IsPermutation-map, IsPermutation-reverse, IsPermutation-trans, ranks_by, sorted_far, sum_by-IsPermutation}
use Rattle.qap_cost.specs.Bijection.{IsPerm}
use Rattle.qap_cost.specs.Placement.{root_of}
use Rattle.qap_cert.specs.Tree.{Node}
use Rattle.number_list.specs.NumberList.{numbers_held}
use Rattle.space_txn.specs.Content.{SameItems}
use Rattle.tuple_match.specs.FieldValue.{FieldValue}
use Rattle.qap_search.specs.Certificate.TreeBuilding.{AreTuplesOf, BeginWith, ahead}
use Rattle.qap_search.specs.Tuples.DecidedTuples.{decided_tuple, decision_tuple}
use Rattle.qap_search.specs.Certificate.InOrder.{AreInOrder, is_before}
use Rattle.qap_search.specs.Tuples.Piece.{pieces}
use Rattle.qap_search.specs.Certificate.Pieces.{decided_tuples}
use Rattle.qap_search.specs.Law.SearchTree.{searched}
use Rattle.qap_search.specs.declared.tuples.parsing.DecidedNode.{DecidedNode}
use Rattle.qap_search.specs.declared.tuples.parsing.Decision.{Decision}
use Rattle.qap_search.specs.declared.tuples.parsing.Decision.TheVariants.{Split, Closed}
use Rattle.qap_search.proofs.CertificateLemmas.Certificates.{root_placement}
use Rattle.qap_search.proofs.CertificateLemmas.Keys.{Before, NotAfter, Rises, key, pieces_rise, same_list}
use Rattle.qap_search.proofs.CertificateLemmas.OneTree.{one_tree}
use Rattle.qap_search.proofs.TupleLemmas.TupleReadings.{found_in, is_it, is_it-found, map_pos-same}

-- a number that doesn't fit 16 bits is no location
pub no_small-no_permutation : (numbers : List ℤ) → SomeIndex numbers (λ i. (k : ℕ) → k < 65536 → get_or numbers i (pos 0) ≢ pos k) → (p : List ℕ) → IsPerm p → map pos p ≢ numbers
no_small-no_permutation numbers some p perm same =
    let many : length p ≡ length numbers = sym (length-map p pos) ∙ ap length same in
    let inside : some.0 < length p = omega (arith, some.1) in
    let within = perm.bijection.within some.0 inside in
    let small = perm.small in
    some.2 (get_or p some.0 0) (omega arith) (ap (λ (xs : List ℤ). get_or xs some.0 (pos 0)) (sym same) ∙ get_or-map pos p some.0 0 (pos 0) inside)

-- numbers that are those of no permutation's locations
pub no_other-permutation : (numbers : List ℤ) (items : List ℕ) → map pos items ≡ numbers → (IsPerm items → ⊥) → (p : List ℕ) → IsPerm p → map pos p ≢ numbers
no_other-permutation numbers items is none p perm same = none (subst IsPerm (map_pos-same p items (same ∙ sym is)) perm)

key-decision : (xs : List ℤ) (d : Decision) → key (decision_tuple xs d) ≡ xs
key-decision xs (Split f) = refl
key-decision xs (Closed u v) = refl

-- where a tuple stands among those of nodes
found_at : (w : List FieldValue) (nodes : List DecidedNode) (d : DecidedNode) → 1 ≤ sum_by (is_it w) (decided_tuples nodes) → (j : ℕ) × (j < length nodes) × (decided_tuple (get_or nodes j d) ≡ w)
found_at w [] d found = absurd (omega arith)
found_at w (x ∷ nodes) d found =
    elim (found_in (is_it w) (decided_tuple x ∷ []) (decided_tuples nodes) found) as
    (λ (_ : (1 ≤ sum_by (is_it w) (decided_tuple x ∷ [])) ⊎ (1 ≤ sum_by (is_it w) (decided_tuples nodes))). (j : ℕ) × (j < length (x ∷ nodes)) × (decided_tuple (get_or (x ∷ nodes) j d) ≡ w)) [
      | inl here ↦ (zero, omega arith, is_it-found w (decided_tuple x) (omega arith))
      | inr there ↦ let rest = found_at w nodes d there in (suc rest.0, let less = rest.1 in omega arith, rest.2)
    ]

rises_by_index : (nodes : List DecidedNode) → ((i j : ℕ) (d : DecidedNode) → i < j → j < length nodes → is_before (get_or nodes j d) (get_or nodes i d) ≡ false) → Rises NotAfter (decided_tuples nodes)
rises_by_index [] h = tt
rises_by_index (x ∷ nodes) h = (
  (λ y found.
      let at = found_at y nodes x found in
      let less = at.1 in
      let n = get_or nodes at.0 x in
      let key_y = sym (ap key at.2) ∙ key-decision (numbers_held n.node) n.decision in
      ap₂ (λ (a b : List ℤ). is_lt (slice_cmp int_cmp a b)) key_y (key-decision (numbers_held x.node) x.decision)
      ∙ h zero (suc at.0) x (omega arith) (omega arith)),
  rises_by_index nodes (λ i j d less within. h (suc i) (suc j) d (omega arith) (omega arith)),
)

-- nodes in order have their tuples in order
rises : (nodes : List DecidedNode) → AreInOrder nodes → Rises NotAfter (decided_tuples nodes)
rises nodes up =
    rises_by_index nodes (λ i j d less within.
    sorted_far is_before (ranks_by (lists_total int_cmp_total) (λ (n : DecidedNode). numbers_held n.node)) nodes up i j d (omega arith) within)

-- moving nodes moves their tuples
same_moved : (old new : List DecidedNode) → IsPermutation old new → SameItems (decided_tuples old) (ahead new)
same_moved old new moved = λ f.
    sym (sum_by-IsPermutation f (decided_tuples old) (ahead new)
    (IsPermutation-map decided_tuple old (reverse new) (IsPermutation-trans old new (reverse new) moved (IsPermutation-reverse new))))

-- a tree whose tuples these are stands at the front of the nodes in order, and nothing is behind it
pub in_front : (n : ℕ) (old new : List DecidedNode) (s : Node) → 0 < n → n ≤ 256 → IsPermutation old new → AreInOrder (reverse new) → AreTuplesOf n (decided_tuples old) s → BeginWith (root_of n) s (ahead new) []
in_front n old new s positive small moved ordered a = record {
  tree = a.tree;
  is =
      same_list (ahead new) (pieces (root_of n) (searched s)) (rises (reverse new) ordered)
      (pieces_rise s (root_of n) (root_placement n positive small) a.tree)
      (λ f. sym (same_moved old new moved f) ∙ a.taken_apart f)
      ∙ sym (append-nil (pieces (root_of n) (searched s)));
}

-- a tree behind which nothing is left has these tuples
pub none_left : (n : ℕ) (old new rest : List DecidedNode) (t : Node) → IsPermutation old new → BeginWith (root_of n) t (ahead new) (ahead rest) → rest ≡ [] → AreTuplesOf n (decided_tuples old) t
none_left n old new rest t moved b empty = record {
  tree = b.tree;
  taken_apart = λ f.
      same_moved old new moved f
      ∙ ap (sum_by f) (b.is ∙ ap (λ (nodes : List DecidedNode). pieces (root_of n) (searched t) ++ ahead nodes) empty ∙ append-nil (pieces (root_of n) (searched t)));
}

ahead-length : (nodes : List DecidedNode) → length (ahead nodes) ≡ length (reverse nodes)
ahead-length nodes = length-map (reverse nodes) decided_tuple

-- a tree behind which something is left leaves no other that has these tuples
pub some_left : (n : ℕ) (old new rest : List DecidedNode) (t : Node) → 0 < n → n ≤ 256 → IsPermutation old new → AreInOrder (reverse new) → BeginWith (root_of n) t (ahead new) (ahead rest) → 0 < length (reverse rest) → (s : Node) → AreTuplesOf n (decided_tuples old) s → ⊥
some_left n old new rest t positive small moved ordered b some s a =
    let front = in_front n old new s positive small moved ordered a in
    let one = one_tree t s (root_of n) (ahead rest) [] b.tree front.tree (sym b.is ∙ front.is) in
    let none : length (ahead rest) ≡ 0 = ap length one.1 in
    let long = ahead-length rest in
    absurd (omega arith)

flip_less : (r s : Ordering) → s ≡ ordering_reverse r → is_lt r ≡ true → is_lt s ≡ false
flip_less Less s e h = ap is_lt e
flip_less Equal s e h = absurd (false≢true h)
flip_less Greater s e h = absurd (false≢true h)

strictly_rises : (xs : List (List FieldValue)) → Rises Before xs → Rises NotAfter xs
strictly_rises [] h = tt
strictly_rises (x ∷ xs) h = (
  (λ y found. flip_less (slice_cmp int_cmp (key x) (key y)) (slice_cmp int_cmp (key y) (key x)) ((lists_total int_cmp_total).antisymm (key y) (key x)) (h.0 y found)),
  strictly_rises xs h.1,
)

-- tuples are those of one tree
pub only_tree : (n : ℕ) (tuples : List (List FieldValue)) (s t : Node) → 0 < n → n ≤ 256 → AreTuplesOf n tuples s → AreTuplesOf n tuples t → s ≡ t
only_tree n tuples s t positive small a b =
    let root = root_of n in
    let placed = root_placement n positive small in
    let left = pieces root (searched s) in
    let right = pieces root (searched t) in
    let same = same_list left right (strictly_rises left (pieces_rise s root placed a.tree)) (pieces_rise t root placed b.tree) (λ f. sym (a.taken_apart f) ∙ b.taken_apart f) in
    (one_tree s t root [] [] a.tree b.tree (ap (λ (l : List (List FieldValue)). l ++ []) same)).0

-- a list of length 0 is empty
pub no_items : {X : Type 0} (xs : List X) → length xs ≡ 0 → xs ≡ []
no_items [] none = refl
no_items (x ∷ xs) none = absurd (omega arith)

-- whether there are none
pub none_counted : (count : ℕ) (b : Bool) → b ≡ nat_eq count 0 → b ≡ true → count ≡ 0
none_counted count b is h = eqb-true count 0 (sym is ∙ h)

-- a count that was found not to be 0 is above 0
pub some_counted : (count : ℕ) (b : Bool) → b ≡ nat_eq count 0 → b ≡ false → 0 < count
some_counted zero b is h = absurd (false≢true (sym h ∙ is))
some_counted (suc count) b is h = omega arith
