-- What the tuples of a certificate are, and what keeps tuples from being those of one.
use Rattle.std.proofs.Common.{◌≡◌, ℕ, suc, ◌≤◌, ◌<◌, ◌⊎◌, inl, inr, cond, eqb, List, [], ◌∷◌, ◌++◌, length, map, get_or, ℤ, pos, Option, Some, None, is_some, true, refl, sym, ap, subst, ◌∙◌, arith}
use Rattle.std.specs.List.{sum_by}
use Rattle.std.proofs.lemmas.Bool.{false≢true}
use Rattle.std.proofs.lemmas.List.Sums.{sum_by-append, sum_by-cons}
use Rattle.qap_cost.specs.Placement.{Placement, IsPlacement, free_locations, placing, root_of}
use Rattle.qap_cert.specs.Certificate.{Claim}
use Rattle.qap_cert.specs.Shape.{AllHaveShape, HasShape, child_count}
use Rattle.qap_cert.specs.Tree.{Node, split, bound, Nodes, no_nodes, node}
use Rattle.qap_cert.specs.declared.version.Version.TheVariants.{Second}
use Rattle.number_list.specs.NumberList.{numbers_held}
use Rattle.space_txn.specs.Content.{SameItems}
use Rattle.tuple_match.specs.FieldValue.{FieldValue}
use Rattle.qap_search.specs.Certificate.Assembling.{IsNoCertificate, IsTreeFault}
use Rattle.qap_search.specs.Certificate.TreeBuilding.{AnyDuals}
use Rattle.qap_search.specs.Tuples.DecidedTuples.{IsNoPiece, decided_tuple, decision_tuple, found_tuple}
use Rattle.qap_search.specs.Certificate.Finished.{IsAssembled}
use Rattle.qap_search.specs.Tuples.Piece.{node_list, split_tuple, closed_tuple, best_tuple, pieces, pieces_of_all}
use Rattle.qap_search.specs.Certificate.Pieces.{decided_tuples, told_tuples}
use Rattle.qap_search.specs.Law.SearchTree.{IsTree, AreTrees, searched, searched_all}
use Rattle.qap_search.specs.declared.tuples.parsing.BestFound.{BestFound}
use Rattle.qap_search.specs.declared.tuples.parsing.DecidedNode.{DecidedNode}
use Rattle.qap_search.specs.declared.tuples.parsing.Decision.{Decision}
use Rattle.qap_search.specs.declared.tuples.parsing.Decision.TheVariants.{Split, Closed}
use Rattle.qap_search.specs.declared.certificate.error.AssembleError.{AssembleError}
use Rattle.qap_search.specs.declared.certificate.error.AssembleError.TheVariants.{NotATree, OutOfMemory}
use Rattle.qap_search.proofs.CertificateLemmas.Certificates.{children_placed, free_location_count, root_placement}
use Rattle.qap_search.proofs.LawLemmas.Replacing.{weighed}
use Rattle.qap_search.proofs.TupleLemmas.TupleReadings.{found_in, is_it, is_it-found, is_it-itself, tag}

mutual
  -- a tree of a certificate's shape is one at its node
  any_tree : (s : Node) (y : Placement) → IsPlacement y → HasShape Second y.size y.facilities s → IsTree AnyDuals y (searched s)
  any_tree (bound u v) y placed h = tt
  any_tree (split f children) y placed h =
      (h.0, h.1, any_trees children y f (free_locations y) (children_placed y f placed h.1) (h.3 ∙ sym (free_location_count y placed)) h.4)

  any_trees : (ss : Nodes) (y : Placement) (f : ℕ) (ks : List ℕ) → ((j : ℕ) → j < length ks → IsPlacement (placing y f (get_or ks j 0))) → child_count ss ≡ length ks → AllHaveShape Second y.size (y.facilities ++ f ∷ []) ss → AreTrees AnyDuals y f ks (searched_all ss)
  any_trees no_nodes y f [] placed count h = tt
  any_trees no_nodes y f (k ∷ ks) placed count h = absurd (omega arith)
  any_trees (node s rest) y f [] placed count h = absurd (omega arith)
  any_trees (node s rest) y f (k ∷ ks) placed count h =
      (any_tree s (placing y f k) (placed 0 (omega arith)) h.0, any_trees rest y f ks (λ j less. placed (suc j) (omega arith)) (omega arith) h.1)

-- so is a certificate's tree at the root
pub assembled_tree : (n : ℕ) (tuples : List (List FieldValue)) (C : Claim) → IsAssembled n tuples C → IsTree AnyDuals (root_of n) (searched C.tree)
assembled_tree n tuples C a =
    let perm = a.certificate.permutation in
    let same = a.same_size in
    let positive = perm.positive in
    let small = perm.small in
    any_tree C.tree (root_of n) (root_placement n (omega arith) (omega arith)) (subst (λ (m : ℕ). HasShape Second m [] C.tree) a.same_size a.certificate.tree)

mutual
  -- the tuples of a tree without open nodes are pieces
  no_piece : (w : List FieldValue) → IsNoPiece w → (s : Node) (y : Placement) → 1 ≤ sum_by (is_it w) (pieces y (searched s)) → ⊥
  no_piece w none (bound u v) y found = none.no_closed (node_list y) u v (sym (is_it-found w (closed_tuple y u v) (omega arith)))
  no_piece w none (split f children) y found =
      elim (found_in (is_it w) (split_tuple y f ∷ []) (pieces_of_all y f (free_locations y) (searched_all children)) found) as
      (λ (_ : (1 ≤ sum_by (is_it w) (split_tuple y f ∷ [])) ⊎ (1 ≤ sum_by (is_it w) (pieces_of_all y f (free_locations y) (searched_all children)))). ⊥) [
        | inl here ↦ none.no_split (node_list y) (pos f) (sym (is_it-found w (split_tuple y f) (omega arith)))
        | inr there ↦ no_piece_among w none children y f (free_locations y) there
      ]

  no_piece_among : (w : List FieldValue) → IsNoPiece w → (ss : Nodes) (y : Placement) (f : ℕ) (ks : List ℕ) → 1 ≤ sum_by (is_it w) (pieces_of_all y f ks (searched_all ss)) → ⊥
  no_piece_among w none no_nodes y f [] found = absurd (omega arith)
  no_piece_among w none no_nodes y f (k ∷ ks) found = absurd (omega arith)
  no_piece_among w none (node s rest) y f [] found = absurd (omega arith)
  no_piece_among w none (node s rest) y f (k ∷ ks) found =
      elim (found_in (is_it w) (pieces (placing y f k) (searched s)) (pieces_of_all y f ks (searched_all rest)) found) as
      (λ (_ : (1 ≤ sum_by (is_it w) (pieces (placing y f k) (searched s))) ⊎ (1 ≤ sum_by (is_it w) (pieces_of_all y f ks (searched_all rest)))). ⊥) [
        | inl here ↦ no_piece w none s (placing y f k) here
        | inr there ↦ no_piece_among w none rest y f ks there
      ]

-- a tuple that is no piece is in the way
pub none_with : (n : ℕ) (all before after told : List (List FieldValue)) (x : List FieldValue) → SameItems all (before ++ told) → before ≡ after ++ x ∷ [] → IsNoPiece x → IsNoCertificate n all
none_with n all before after told x same is none C a =
    let w = is_it x in
    let parts = sum_by-append w before told in
    let last = ap (sum_by w) is in
    let inner = sum_by-append w after (x ∷ []) in
    let itself = is_it-itself x in
    let here = same w in
    let there = a.taken_apart w in
    elim (found_in w (best_tuple C.cost C.permutation ∷ []) (pieces (root_of n) (searched C.tree)) (omega arith)) as
    (λ (_ : (1 ≤ sum_by w (best_tuple C.cost C.permutation ∷ [])) ⊎ (1 ≤ sum_by w (pieces (root_of n) (searched C.tree)))). ⊥) [
      | inl best ↦ none.no_best C.cost (map pos C.permutation) (sym (is_it-found x (best_tuple C.cost C.permutation) (omega arith)))
      | inr found ↦ no_piece x none C.tree (root_of n) found
    ]

-- 1 at the tuple of a best permutation
abbrev pub best_weight : List FieldValue → ℕ
best_weight t = cond (eqb (tag t) 98) 1 0

-- there is one best permutation
one_best : (n : ℕ) (all : List (List FieldValue)) (C : Claim) → IsAssembled n all C → sum_by best_weight all ≡ 1
one_best n all C a =
    let there = a.taken_apart best_weight in
    let parts = sum_by-cons best_weight (best_tuple C.cost C.permutation) (pieces (root_of n) (searched C.tree)) in
    let rest = weighed best_weight 0 (λ x. refl) (λ x f. refl) (λ x u v. refl) (searched C.tree) (root_of n) AnyDuals (assembled_tree n all C a) in
    omega arith

-- decided nodes are no best permutations
decided_weight : (xs : List ℤ) (d : Decision) → best_weight (decision_tuple xs d) ≡ 0
decided_weight xs (Split f) = refl
decided_weight xs (Closed u v) = refl

none_decided : (nodes : List DecidedNode) → sum_by best_weight (decided_tuples nodes) ≡ 0
none_decided [] = refl
none_decided (d ∷ ds) =
    let first = decided_weight (numbers_held d.node) d.decision in
    let rest = none_decided ds in
    let parts = sum_by-cons best_weight (decided_tuple d) (decided_tuples ds) in
    omega arith

-- decided nodes alone tell no permutation
pub none_without_best : (n : ℕ) (all : List (List FieldValue)) (best : Option BestFound) (nodes : List DecidedNode) → best ≡ None → SameItems all (told_tuples best nodes) → IsNoCertificate n all
none_without_best n all best nodes is same C a =
    let here = same best_weight in
    let none = ap (λ (b : Option BestFound). sum_by best_weight (told_tuples b nodes)) is in
    let decided = none_decided nodes in
    let one = one_best n all C a in
    absurd (omega arith)

-- nor do two of them
pub none_with_two : (n : ℕ) (all before after : List (List FieldValue)) (x : List FieldValue) (best : Option BestFound) (nodes : List DecidedNode) (a b : BestFound) → SameItems all (before ++ told_tuples best nodes) → before ≡ after ++ x ∷ [] → best ≡ Some a → x ≡ found_tuple b → IsNoCertificate n all
none_with_two n all before after x best nodes a b same is first second C assembled =
    let here = same best_weight in
    let outer = sum_by-append best_weight before (told_tuples best nodes) in
    let split = ap (sum_by best_weight) is in
    let inner = sum_by-append best_weight after (x ∷ []) in
    let last = ap best_weight second in
    let told = ap (λ (o : Option BestFound). sum_by best_weight (told_tuples o nodes)) first in
    let parts = sum_by-cons best_weight (found_tuple a) (decided_tuples nodes) in
    let one = one_best n all C assembled in
    absurd (omega arith)

-- the last tuple has been told
pub told_all : (all before told : List (List FieldValue)) → length before ≡ 0 → SameItems all (before ++ told) → SameItems all told
told_all all [] told none same = same
told_all all (x ∷ xs) told none same = absurd (omega arith)

-- an option that isn't none has an item
pub some_there : {X : Type 0} (o : Option X) → is_some o ≡ true → (x : X) × (o ≡ Some x)
some_there None h = absurd (false≢true h)
some_there (Some x) h = (x, refl)

-- why a piece isn't kept is why the tuples aren't put together
pub keep_fault : (n : ℕ) (all before after : List (List FieldValue)) (x y : List FieldValue) (best : Option BestFound) (nodes : List DecidedNode) (e : AssembleError) → SameItems all (before ++ told_tuples best nodes) → before ≡ after ++ x ∷ [] → y ≡ x
    → (e ≡ OutOfMemory) ⊎ ((e ≡ NotATree) × ((a : BestFound) × (best ≡ Some a)) × ((b : BestFound) × (y ≡ found_tuple b))) → IsTreeFault n all e
keep_fault n all before after x y best nodes e same is piece (inl memory) = inl memory
keep_fault n all before after x y best nodes e same is piece (inr two) =
    inr (two.0, none_with_two n all before after x best nodes two.1.0 two.2.0 same is two.1.1 (sym piece ∙ two.2.1))
