-- What the certificate of a stopped search shows of the cut tree that it comes from.
use Rattle.std.proofs.Common.{◌≡◌, ℕ, suc, ◌+◌, ◌<◌, ◌⊎◌, inl, inr, List, [], ◌∷◌, ◌++◌, length, get_or, refl, subst, arith}
use Rattle.std.specs.Prelude.{ℤ, pos, ◌≤ℤ◌, ◌+ℤ◌, All}
use Rattle.std.specs.List.{sum_by}
use Rattle.std.proofs.lemmas.Int.{ints}
use Rattle.std.proofs.lemmas.List.{get_or_append_left, get_or-append-add, length-append}
use Rattle.std.proofs.lemmas.List.Elements.{All-append, All-cons, All-nil}
use Rattle.std.proofs.lemmas.List.Sums.{sum_by-append, sum_by-cons}
use Rattle.qap_cost.specs.Instance.{Problem, IsInstance}
use Rattle.qap_cost.specs.Matrix.{dual_value}
use Rattle.qap_cost.specs.Objective.{cost_of}
use Rattle.qap_cost.specs.Placement.{Placement, IsPlacement, fixed_cost_of, free_locations, placing, root_of}
use Rattle.qap_cost.specs.Range.{IsLimited}
use Rattle.qap_cert.specs.Certificate.{Claim, Certifies}
use Rattle.qap_cert.specs.Shape.{AllHaveShape, HasShape}
use Rattle.qap_cert.specs.Tree.{Node, split, bound, Nodes, no_nodes, node, node_count}
use Rattle.qap_cert.specs.Valid.{AllValid, ClosesPart, Valid}
use Rattle.qap_cert.specs.declared.version.Version.TheVariants.{Second}
use Rattle.tuple_match.specs.FieldValue.{FieldValue}
use Rattle.qap_search.specs.Certificate.OpenNodes.{AllClosedTo, ClosedTo, undecided_count, undecided_counts}
use Rattle.qap_search.specs.Law.CutTree.{IsCutTree}
use Rattle.qap_search.specs.Tuples.Piece.{best_tuple, closed_tuple, open_count, pieces, pieces_of_all, split_tuple}
use Rattle.qap_search.specs.Law.Replacement.{Best}
use Rattle.qap_search.specs.Law.Search.{from_root}
use Rattle.qap_search.specs.Law.SearchTree.{SearchTree, open_node, split_node, closed_node, SearchTrees, no_trees, tree, IsTree, AreTrees, decided_count}
use Rattle.qap_search.specs.Certificate.Stopped.{HasDuals, IsNotStopped, IsStopped, IsUnfinished}
use Rattle.qap_search.specs.Certificate.LeafBounds.{IsLeastOf, shown, shown_by_all}
use Rattle.qap_search.proofs.CertificateLemmas.Certificates.{FoundClose, best_is, best_of, children_placed, closed_in_both, cost_limited, decided_weight, open_weight, root_placement}
use Rattle.qap_search.proofs.CertificateLemmas.OpenNodes.{closed_count, tree_from_closed}
use Rattle.qap_search.proofs.NodeLemmas.LeastDuals.{least_duals_above}
use Rattle.qap_search.proofs.LawLemmas.Replacing.{trees_by, weighed}
use Rattle.qap_search.proofs.TupleLemmas.TupleReadings.{IsNode, IsNode-placing, is_it, is_it-itself}

-- what holds of each of two rows of numbers holds of the first, and of the second
all_left : (P : ℤ → Type 0) (xs ys : List ℤ) → All P (xs ++ ys) → All P xs
all_left P xs ys h k d below = subst P (get_or_append_left xs ys d k below) (h k d (let both = length-append xs ys in omega arith))

all_right : (P : ℤ → Type 0) (xs ys : List ℤ) → All P (xs ++ ys) → All P ys
all_right P xs ys h k d below = subst P (get_or-append-add xs ys k d) (h (length xs + k) d (let both = length-append xs ys in omega arith))

-- duals that close a node close it by what they show
closes_by_shown : (I : Problem) (c g : ℤ) (y : Placement) (u v w z : List ℤ) → ClosesPart I c y u v → u ≡ w → v ≡ z → g ≤ℤ (fixed_cost_of I y +ℤ dual_value w z) → ClosesPart I g y w z
closes_by_shown I c g y u v w z h same_u same_v enough =
    let moved = subst (λ (a : List ℤ). ClosesPart I c y a z) same_u (subst (λ (b : List ℤ). ClosesPart I c y u b) same_v h) in
    record { duals = moved.duals; closes = record { fits = moved.closes.fits; enough = enough } }

mutual
  -- where the nodes of a search tree show d, and each closed node of the tree that closes it shows g at least, that tree proves g
  closed_valid : (I : Problem) (c g : ℤ) (n : ℕ) (s : SearchTree) (t : Node) (y : Placement) → IsNode n y → HasShape Second y.size y.facilities t → ClosedTo I y s t → FoundClose I c n (pieces y s) → All (λ z. g ≤ℤ z) (shown I y t) → Valid I g y t
  closed_valid I c g n open_node (bound u v) y hy shape h close above = record {
    duals = h.duals;
    closes = record { fits = record { matrix = h.matrix; square = h.square; reduced = h.reduced; fits = h.fits }; enough = above 0 (pos 0) (omega arith) };
  }
  closed_valid I c g n open_node (split f nodes) y hy shape h close above = absurd h
  closed_valid I c g n (closed_node u v) (bound w z) y hy shape h close above =
      let itself = is_it-itself (closed_tuple y u v) in
      closes_by_shown I c g y u v w z (close y u v hy (omega arith)) h.0 h.1 (above 0 (pos 0) (omega arith))
  closed_valid I c g n (closed_node u v) (split f nodes) y hy shape h close above = absurd h
  closed_valid I c g n (split_node f children) (bound u v) y hy shape h close above = absurd h
  closed_valid I c g n (split_node f children) (split e nodes) y hy shape h close above =
      let Q : ℕ → Type 0 = λ e. HasShape Second y.size y.facilities (split e nodes) → All (λ z. g ≤ℤ z) (shown I y (split e nodes)) → Valid I g y (split e nodes) in
      subst Q h.0
      (λ shape above. (
        shape.0,
        shape.1,
        all_closed_valid I c g n children nodes y f (free_locations y) hy shape.4 h.1
            (λ x u v hx found. close x u v hx (let parts = sum_by-cons (is_it (closed_tuple x u v)) (split_tuple y f) (pieces_of_all y f (free_locations y) children) in omega arith))
            above,
      ))
      shape above

  all_closed_valid : (I : Problem) (c g : ℤ) (n : ℕ) (ss : SearchTrees) (ts : Nodes) (y : Placement) (f : ℕ) (ks : List ℕ) → IsNode n y → AllHaveShape Second y.size (y.facilities ++ f ∷ []) ts → AllClosedTo I y f ks ss ts → FoundClose I c n (pieces_of_all y f ks ss) → All (λ z. g ≤ℤ z) (shown_by_all I y f ks ts) → AllValid I g y f ks ts
  all_closed_valid I c g n no_trees no_nodes y f [] hy shape h close above = tt
  all_closed_valid I c g n no_trees no_nodes y f (k ∷ ks) hy shape h close above = absurd h
  all_closed_valid I c g n no_trees (node t ts) y f [] hy shape h close above = absurd h
  all_closed_valid I c g n no_trees (node t ts) y f (k ∷ ks) hy shape h close above = absurd h
  all_closed_valid I c g n (tree s ss) no_nodes y f [] hy shape h close above = absurd h
  all_closed_valid I c g n (tree s ss) no_nodes y f (k ∷ ks) hy shape h close above = absurd h
  all_closed_valid I c g n (tree s ss) (node t ts) y f [] hy shape h close above = absurd h
  all_closed_valid I c g n (tree s ss) (node t ts) y f (k ∷ ks) hy shape h close above =
      let P : ℤ → Type 0 = λ z. g ≤ℤ z in
      let first = shown I (placing y f k) t in
      let others = shown_by_all I y f ks ts in (
        closed_valid I c g n s t (placing y f k) (IsNode-placing n y f k hy) shape.0 h.0
            (λ x u v hx found. close x u v hx (let parts = sum_by-append (is_it (closed_tuple x u v)) (pieces (placing y f k) s) (pieces_of_all y f ks ss) in omega arith))
            (all_left P first others above),
        all_closed_valid I c g n ss ts y f ks hy shape.1 h.1
            (λ x u v hx found. close x u v hx (let parts = sum_by-append (is_it (closed_tuple x u v)) (pieces (placing y f k) s) (pieces_of_all y f ks ss) in omega arith))
            (all_right P first others above),
      )

-- the least of some numbers is at most the later ones
least_behind : (c : ℤ) (xs : List ℤ) (g : ℤ) → IsLeastOf (c ∷ xs) g → All (λ z. g ≤ℤ z) xs
least_behind c xs g h k d below = h.least (suc k) d (omega arith)

-- a stopped certificate's tree, at the root of the instance's size
root_shape : (I : Problem) (content : List (List FieldValue)) (C : Claim) → IsStopped I content C → HasShape Second I.size [] C.tree
root_shape I content C s = subst (λ (m : ℕ). HasShape Second m [] C.tree) s.closes.same_size s.closes.certificate.tree

-- the certificate of a stopped search certifies what it claims
pub stopped_certifies : (I : Problem) (known : Best) (content : List (List FieldValue)) (commits : ℕ) (C : Claim) → IsCutTree (from_root I known) content commits → IsStopped I content C → Certifies I C
stopped_certifies I known content commits C h s =
    let same = best_is I known content commits (best_of C) s.tree h s.taken_apart in
    record {
      same_size = s.closes.same_size;
      cost = subst (λ (b : Best). cost_of I b.permutation ≡ b.cost) same h.costs;
      tree =
          closed_valid I h.cost C.bound I.size s.tree C.tree (root_of I.size) (record { size = refl; paired = refl }) (root_shape I content C s) s.closes.closed
          (closed_in_both I known content commits (best_of C) s.tree h s.taken_apart)
          (least_behind C.cost (shown I (root_of I.size) C.tree) C.bound s.closes.least);
    }

-- its cost is that of the best permutation, which is no dearer than the one that was known
pub stopped_no_dearer : (I : Problem) (known : Best) (content : List (List FieldValue)) (commits : ℕ) (C : Claim) → IsCutTree (from_root I known) content commits → IsStopped I content C → C.cost ≤ℤ known.cost
stopped_no_dearer I known content commits C h s =
    let same = best_is I known content commits (best_of C) s.tree h s.taken_apart in
    subst (λ (b : Best). b.cost ≤ℤ known.cost) same h.no_dearer

mutual
  -- a plain tree whose closed nodes' duals are found to close them
  closing_tree : (I : Problem) (c : ℤ) (n : ℕ) (t : SearchTree) (y : Placement) → IsNode n y → IsTree HasDuals y t → FoundClose I c n (pieces y t) → IsTree (ClosesPart I c) y t
  closing_tree I c n open_node y hy h close = tt
  closing_tree I c n (closed_node u v) y hy h close =
      let itself = is_it-itself (closed_tuple y u v) in
      close y u v hy (omega arith)
  closing_tree I c n (split_node f children) y hy h close = (
    h.0,
    h.1,
    all_closing_trees I c n children y f (free_locations y) hy h.2
        (λ x u v hx found. close x u v hx (let parts = sum_by-cons (is_it (closed_tuple x u v)) (split_tuple y f) (pieces_of_all y f (free_locations y) children) in omega arith)),
  )

  all_closing_trees : (I : Problem) (c : ℤ) (n : ℕ) (ts : SearchTrees) (y : Placement) (f : ℕ) (ks : List ℕ) → IsNode n y → AreTrees HasDuals y f ks ts → FoundClose I c n (pieces_of_all y f ks ts) → AreTrees (ClosesPart I c) y f ks ts
  all_closing_trees I c n no_trees y f [] hy h close = tt
  all_closing_trees I c n no_trees y f (k ∷ ks) hy h close = absurd h
  all_closing_trees I c n (tree t rest) y f [] hy h close = absurd h
  all_closing_trees I c n (tree t rest) y f (k ∷ ks) hy h close = (
    closing_tree I c n t (placing y f k) (IsNode-placing n y f k hy) h.0
        (λ x u v hx found. close x u v hx (let parts = sum_by-append (is_it (closed_tuple x u v)) (pieces (placing y f k) t) (pieces_of_all y f ks rest) in omega arith)),
    all_closing_trees I c n rest y f ks hy h.1
        (λ x u v hx found. close x u v hx (let parts = sum_by-append (is_it (closed_tuple x u v)) (pieces (placing y f k) t) (pieces_of_all y f ks rest) in omega arith)),
  )

-- the leaves that were closed before show the certificate's cost at least
pub stopped_closed_before : (I : Problem) (known : Best) (content : List (List FieldValue)) (commits : ℕ) (C : Claim) → IsCutTree (from_root I known) content commits → (s : IsStopped I content C) → IsTree (ClosesPart I C.cost) (root_of I.size) s.tree
stopped_closed_before I known content commits C h s =
    let root = root_of I.size in
    let same = best_is I known content commits (best_of C) s.tree h s.taken_apart in
    let shaped = tree_from_closed I s.tree C.tree root (root_shape I content C s) s.closes.closed in
    subst (λ (b : Best). IsTree (ClosesPart I b.cost) root s.tree) same
    (closing_tree I h.cost I.size s.tree root (record { size = refl; paired = refl }) shaped (closed_in_both I known content commits (best_of C) s.tree h s.taken_apart))

mutual
  -- the open nodes of a tree, counted by their tuples
  open_weighed : (t : SearchTree) (y : Placement) (P : Placement → List ℤ → List ℤ → Type 0) → IsTree P y t → sum_by open_weight (pieces y t) ≡ undecided_count t
  open_weighed open_node y P h = refl
  open_weighed (closed_node u v) y P h = refl
  open_weighed (split_node f children) y P h =
      let parts = sum_by-cons open_weight (split_tuple y f) (pieces_of_all y f (free_locations y) children) in
      let inner = all_open_weighed children y f (free_locations y) P h.2 in
      omega arith

  all_open_weighed : (ts : SearchTrees) (y : Placement) (f : ℕ) (ks : List ℕ) (P : Placement → List ℤ → List ℤ → Type 0) → AreTrees P y f ks ts → sum_by open_weight (pieces_of_all y f ks ts) ≡ undecided_counts ts
  all_open_weighed no_trees y f [] P h = refl
  all_open_weighed no_trees y f (k ∷ ks) P h = absurd h
  all_open_weighed (tree t rest) y f [] P h = absurd h
  all_open_weighed (tree t rest) y f (k ∷ ks) P h =
      let first = open_weighed t (placing y f k) P h.0 in
      let others = all_open_weighed rest y f ks P h.1 in
      let parts = sum_by-append open_weight (pieces (placing y f k) t) (pieces_of_all y f ks rest) in
      omega arith

-- its tree has a decided node for each commit, and one more for each open node
pub stopped_counted : (I : Problem) (known : Best) (content : List (List FieldValue)) (commits : ℕ) (C : Claim) → IsCutTree (from_root I known) content commits → (s : IsStopped I content C) → (decided_count s.tree ≡ commits) × (undecided_count s.tree ≡ open_count content) × (node_count C.tree ≡ commits + open_count content)
stopped_counted I known content commits C h s =
    let root = root_of I.size in
    let valid = tree_from_closed I s.tree C.tree root (root_shape I content C s) s.closes.closed in
    let left = weighed decided_weight 1 (λ x. refl) (λ x f. refl) (λ x u v. refl) h.tree root (ClosesPart I h.cost) h.valid in
    let right = weighed decided_weight 1 (λ x. refl) (λ x f. refl) (λ x u v. refl) s.tree root HasDuals valid in
    let apart = h.taken_apart decided_weight in
    let there = s.taken_apart decided_weight in
    let one = sum_by-cons decided_weight (best_tuple h.cost h.permutation) (pieces root h.tree) in
    let other = sum_by-cons decided_weight (best_tuple C.cost C.permutation) (pieces root s.tree) in
    let counted = h.counted in
    let decided : decided_count s.tree ≡ commits = omega arith in
    let open_there = s.taken_apart open_weight in
    let open_parts = sum_by-cons open_weight (best_tuple C.cost C.permutation) (pieces root s.tree) in
    let open_left = open_weighed s.tree root HasDuals valid in
    let opened : undecided_count s.tree ≡ open_count content = omega arith in
    let all = closed_count I s.tree C.tree root s.closes.closed in
    (decided, opened, omega arith)

mutual
  -- no closed node of the closed tree shows less than -10^24
  shown_above : (I : Problem) (c : ℤ) (s : SearchTree) (t : Node) (y : Placement) → IsInstance I → IsPlacement y → IsLimited c → IsTree (ClosesPart I c) y s → ClosedTo I y s t → All (λ (z : ℤ). c ≤ℤ z ⊎ IsLimited z) (shown I y t)
  shown_above I c open_node (bound u v) y i placed limited valid h =
      All-cons (λ (z : ℤ). c ≤ℤ z ⊎ IsLimited z) _ [] (inr (least_duals_above I y u v i placed h)) (All-nil (λ (z : ℤ). c ≤ℤ z ⊎ IsLimited z))
  shown_above I c open_node (split f nodes) y i placed limited valid h = absurd h
  shown_above I c (closed_node u v) (bound w z) y i placed limited valid h =
      All-cons (λ (z : ℤ). c ≤ℤ z ⊎ IsLimited z) _ []
      (inl (closes_by_shown I c c y u v w z valid h.0 h.1 (subst (λ (a : List ℤ). c ≤ℤ (fixed_cost_of I y +ℤ dual_value a z)) h.0 (subst (λ (b : List ℤ). c ≤ℤ (fixed_cost_of I y +ℤ dual_value u b)) h.1 valid.closes.enough))).closes.enough)
      (All-nil (λ (z : ℤ). c ≤ℤ z ⊎ IsLimited z))
  shown_above I c (closed_node u v) (split f nodes) y i placed limited valid h = absurd h
  shown_above I c (split_node f children) (bound u v) y i placed limited valid h = absurd h
  shown_above I c (split_node f children) (split e nodes) y i placed limited valid h =
      subst (λ (e : ℕ). All (λ (z : ℤ). c ≤ℤ z ⊎ IsLimited z) (shown I y (split e nodes))) h.0
      (all_shown_above I c children nodes y f (free_locations y) i (children_placed y f placed valid.1) limited valid.2 h.1)

  all_shown_above : (I : Problem) (c : ℤ) (ss : SearchTrees) (ts : Nodes) (y : Placement) (f : ℕ) (ks : List ℕ) → IsInstance I → ((j : ℕ) → j < length ks → IsPlacement (placing y f (get_or ks j 0))) → IsLimited c → AreTrees (ClosesPart I c) y f ks ss → AllClosedTo I y f ks ss ts → All (λ (z : ℤ). c ≤ℤ z ⊎ IsLimited z) (shown_by_all I y f ks ts)
  all_shown_above I c no_trees no_nodes y f [] i placed limited valid h = All-nil (λ (z : ℤ). c ≤ℤ z ⊎ IsLimited z)
  all_shown_above I c no_trees no_nodes y f (k ∷ ks) i placed limited valid h = absurd h
  all_shown_above I c no_trees (node t ts) y f [] i placed limited valid h = absurd h
  all_shown_above I c no_trees (node t ts) y f (k ∷ ks) i placed limited valid h = absurd h
  all_shown_above I c (tree s ss) no_nodes y f [] i placed limited valid h = absurd h
  all_shown_above I c (tree s ss) no_nodes y f (k ∷ ks) i placed limited valid h = absurd h
  all_shown_above I c (tree s ss) (node t ts) y f [] i placed limited valid h = absurd h
  all_shown_above I c (tree s ss) (node t ts) y f (k ∷ ks) i placed limited valid h =
      All-append (λ (z : ℤ). c ≤ℤ z ⊎ IsLimited z) (shown I (placing y f k) t) (shown_by_all I y f ks ts)
      (shown_above I c s t (placing y f k) i (placed 0 (omega arith)) limited valid.0 h.0)
      (all_shown_above I c ss ts y f ks i (λ j less. placed (suc j) (omega arith)) limited valid.1 h.1)

-- a number that is at most one within the limits, and is that one, or above it, or within the limits itself, is within them
limited_between : (c g : ℤ) → IsLimited c → g ≤ℤ c → c ≤ℤ g ⊎ IsLimited g → IsLimited g
limited_between c g limited below (inl above) = subst IsLimited (let same : c ≡ g = omega (arith, ints) in same) limited
limited_between c g limited below (inr itself) = itself

-- the least of a cost and of numbers that are at least that or within the limits is within the limits
bound_limited : (c : ℤ) (xs : List ℤ) (g : ℤ) → IsLimited c → All (λ (z : ℤ). c ≤ℤ z ⊎ IsLimited z) xs → IsLeastOf (c ∷ xs) g → IsLimited g
bound_limited c xs g limited above h =
    let all = All-cons (λ (z : ℤ). c ≤ℤ z ⊎ IsLimited z) c xs (inr limited) above in
    let at = h.one in
    limited_between c g limited (h.least 0 c (omega arith)) (subst (λ (z : ℤ). c ≤ℤ z ⊎ IsLimited z) at.2 (all at.0 g at.1))

-- the tuples of a cut tree are those of a search tree and a permutation which show no bound that is too low
pub stopped_not_refused : (I : Problem) (known : Best) (content : List (List FieldValue)) (commits : ℕ) → IsInstance I → IsCutTree (from_root I known) content commits → IsNotStopped I content → ⊥
stopped_not_refused I known content commits i h none =
    let root = root_of I.size in
    let same = h.permutes.same_size in
    let positive = i.positive in
    let small = i.small in
    let limited = subst IsLimited h.costs (cost_limited I h.permutation i h.permutes) in
    let unfinished : IsUnfinished I.size content h.cost h.permutation h.tree = record {
      cost = limited;
      permutation = record { bijection = h.permutes.bijection; positive = omega arith; small = omega arith };
      same_size = same;
      tree = trees_by (ClosesPart I h.cost) HasDuals (λ x u v closes. closes.duals) h.tree root h.valid;
      taken_apart = h.taken_apart;
    } in
    let low = none h.cost h.permutation h.tree unfinished in
    low.too_low
    (bound_limited h.cost (shown I root low.tree) low.bound limited
    (shown_above I h.cost h.tree low.tree root i (root_placement I.size i.positive i.small) limited h.valid low.closed) low.least)
