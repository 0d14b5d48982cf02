-- A search tree without open nodes is that of a certificate, which certifies what the search tree's nodes show.
use Rattle.std.proofs.Common.{◌≡◌, ℕ, suc, ◌+◌, ◌-◌, ◌*◌, ◌≤◌, ◌<◌, ◌⊎◌, ◌||◌, inl, inr, cond, eqb, List, [], ◌∷◌, ◌++◌, length, get_or, ℤ, unsigned_abs, refl, sym, ap, subst, ◌∙◌, arith, length-append, mul-le-mul_right}
use Rattle.std.specs.List.{sum_by}
use Rattle.std.proofs.lemmas.Int.{ints, unsigned_abs-mul}
use Rattle.std.proofs.lemmas.List.Sums.{sum_by-append, sum_by-cons}
use Rattle.std.proofs.lemmas.Nat.{mul-le}
use Rattle.qap_cost.proofs.Placements.{AreDifferent-length, AreDifferent-more, IsPlacement-placing, ListsFree-free_below}
use Rattle.qap_cost.proofs.Sums.{sum_to-bound}
use Rattle.qap_cost.specs.Instance.{Problem, IsInstance, entry}
use Rattle.qap_cost.specs.Objective.{Permutes, cost_of, pair_cost, row_cost}
use Rattle.qap_cost.specs.Placement.{Placement, IsPlacement, IsFreeFacility, free_facilities, free_locations, placing, root_of}
use Rattle.qap_cost.specs.Range.{IsLimited}
use Rattle.qap_cert.specs.Certificate.{Claim, Certifies, claim_of}
use Rattle.qap_cert.specs.Shape.{AllHaveShape, HasShape, child_count}
use Rattle.qap_cert.specs.Tree.{Node, split, bound, Nodes, no_nodes, node, node_count, nodes_count}
use Rattle.qap_cert.specs.Valid.{AllValid, ClosesPart, Valid}
use Rattle.qap_cert.specs.declared.version.Version.TheVariants.{Second}
use Rattle.space_txn.specs.Content.{SameItems}
use Rattle.tuple_match.specs.FieldValue.{FieldValue}
use Rattle.qap_search.specs.Law.CutTree.{IsCutTree}
use Rattle.qap_search.specs.Certificate.Finished.{IsAssembled}
use Rattle.qap_search.specs.Tuples.Piece.{node_tuple, split_tuple, closed_tuple, best_tuple, is_open, open_count, pieces, pieces_of_all}
use Rattle.qap_search.specs.Law.Replacement.{Best, tuple_of}
use Rattle.qap_search.specs.Law.Search.{from_root}
use Rattle.qap_search.specs.Law.SearchTree.{SearchTree, open_node, split_node, closed_node, SearchTrees, no_trees, tree, IsTree, AreTrees, decided_count, decided_counts, searched, searched_all}
use Rattle.qap_search.specs.Certificate.Stopped.{HasDuals}
use Rattle.qap_search.proofs.LawLemmas.Replacing.{best_found, trees_by, weighed}
use Rattle.qap_search.proofs.TupleLemmas.TupleReadings.{IsNode, IsNode-placing, found_in, is_it, is_it-found, is_it-itself, is_it-other, list_at, same_node, tag}

-- 1 at the tuple of an open node
abbrev pub open_weight : List FieldValue → ℕ
open_weight t = cond (is_open t) 1 0

mutual
  -- a plain tree without open nodes is a certificate's
  pub finished : (P : Placement → List ℤ → List ℤ → Type 0) (t : SearchTree) (y : Placement) → IsTree P y t → sum_by open_weight (pieces y t) ≡ 0 → (s : Node) × (t ≡ searched s)
  finished P open_node y h none = absurd (omega arith)
  finished P (closed_node u v) y h none = (bound u v, refl)
  finished P (split_node f children) y h none =
      let parts = sum_by-cons open_weight (split_tuple y f) (pieces_of_all y f (free_locations y) children) in
      let inner = all_finished P children y f (free_locations y) h.2 (omega arith) in
      (split f inner.0, ap (split_node f) inner.1)

  all_finished : (P : Placement → List ℤ → List ℤ → Type 0) (ts : SearchTrees) (y : Placement) (f : ℕ) (ks : List ℕ) → AreTrees P y f ks ts → sum_by open_weight (pieces_of_all y f ks ts) ≡ 0 → (ss : Nodes) × (ts ≡ searched_all ss)
  all_finished P no_trees y f [] h none = (no_nodes, refl)
  all_finished P no_trees y f (k ∷ ks) h none = absurd h
  all_finished P (tree t rest) y f [] h none = absurd h
  all_finished P (tree t rest) y f (k ∷ ks) h none =
      let parts = sum_by-append open_weight (pieces (placing y f k) t) (pieces_of_all y f ks rest) in
      let first = finished P t (placing y f k) h.0 (omega arith) in
      let others = all_finished P rest y f ks h.1 (omega arith) in
      (node first.0 others.0, ap (λ (s : SearchTree). tree s rest) first.1 ∙ ap (tree (searched first.0)) others.1)

-- the children of a node are nodes
pub children_placed : (y : Placement) (f : ℕ) → IsPlacement y → IsFreeFacility y f → (j : ℕ) → j < length (free_locations y) → IsPlacement (placing y f (get_or (free_locations y) j 0))
children_placed y f h free j less = IsPlacement-placing y f (get_or (free_locations y) j 0) h free ((ListsFree-free_below y.size y.places h.places).each j less)

-- a facility is free only where not all are placed
pub free_depth : (x : Placement) (f : ℕ) → IsPlacement x → IsFreeFacility x f → length x.facilities < x.size
free_depth x f h free =
    let most = AreDifferent-length x.size (x.facilities ++ f ∷ []) (AreDifferent-more x.size f x.facilities h.facilities free) in
    let long = length-append x.facilities (f ∷ []) in
    omega arith

-- the free facilities are those that aren't placed
pub free_facility_count : (y : Placement) → IsPlacement y → length (free_facilities y) ≡ y.size - length y.facilities
free_facility_count y h =
    let count = (ListsFree-free_below y.size y.facilities h.facilities).count in
    omega arith

-- there are as many free locations as free facilities
pub free_location_count : (y : Placement) → IsPlacement y → length (free_locations y) ≡ y.size - length y.facilities
free_location_count y h =
    let count = (ListsFree-free_below y.size y.places h.places).count in
    let paired = h.paired in
    omega arith

mutual
  -- a tree whose leaves have a dual for each free facility and location has the shape of a certificate's
  pub tree_shape : (s : Node) (y : Placement) → IsPlacement y → IsTree HasDuals y (searched s) → HasShape Second y.size y.facilities s
  tree_shape (bound u v) y placed h = h
  tree_shape (split f children) y placed h =
      let inner = trees_shape children y f (free_locations y) (children_placed y f placed h.1) h.2 in
      (h.0, h.1, h.1.within, inner.0 ∙ free_location_count y placed, inner.1)

  trees_shape : (ss : Nodes) (y : Placement) (f : ℕ) (ks : List ℕ) → ((j : ℕ) → j < length ks → IsPlacement (placing y f (get_or ks j 0))) → AreTrees HasDuals y f ks (searched_all ss) → (child_count ss ≡ length ks) × AllHaveShape Second y.size (y.facilities ++ f ∷ []) ss
  trees_shape no_nodes y f [] placed h = (refl, tt)
  trees_shape no_nodes y f (k ∷ ks) placed h = absurd h
  trees_shape (node s rest) y f [] placed h = absurd h
  trees_shape (node s rest) y f (k ∷ ks) placed h =
      let first = tree_shape s (placing y f k) (placed 0 (omega arith)) h.0 in
      let others = trees_shape rest y f ks (λ j less. placed (suc j) (omega arith)) h.1 in
      let count = others.0 in
      (omega arith, (first, others.1))

-- the tuple of a closed node is that of another only where they are one, with the same duals
same_closed : (P : Placement → List ℤ → List ℤ → Type 0) (n : ℕ) (x y : Placement) (u v w z : List ℤ) → IsNode n x → IsNode n y → closed_tuple y w z ≡ closed_tuple x u v → P y w z → P x u v
same_closed P n x y u v w z hx hy e h =
    subst (λ (a : Placement). P a u v) (same_node n y x hy hx (ap (list_at 1) e))
    (subst (P y u) (ap (list_at 3) e) (subst (λ (a : List ℤ). P y a z) (ap (list_at 2) e) h))

mutual
  -- what holds of each closed node holds of the one whose tuple is found
  closed_found : (P : Placement → List ℤ → List ℤ → Type 0) (n : ℕ) (x : Placement) (u v : List ℤ) → IsNode n x → (t : SearchTree) (y : Placement) → IsNode n y → IsTree P y t → 1 ≤ sum_by (is_it (closed_tuple x u v)) (pieces y t) → P x u v
  closed_found P n x u v hx open_node y hy h found =
      let none = is_it-other (closed_tuple x u v) (node_tuple y) (λ (e : 110 ≡ 99). omega arith) in
      absurd (omega arith)
  closed_found P n x u v hx (closed_node w z) y hy h found =
      same_closed P n x y u v w z hx hy (is_it-found (closed_tuple x u v) (closed_tuple y w z) (omega arith)) h
  closed_found P n x u v hx (split_node f children) y hy h found =
      let none = is_it-other (closed_tuple x u v) (split_tuple y f) (λ (e : 115 ≡ 99). omega arith) in
      let parts = sum_by-cons (is_it (closed_tuple x u v)) (split_tuple y f) (pieces_of_all y f (free_locations y) children) in
      closed_found_among P n x u v hx children y f (free_locations y) hy h.2 (omega arith)

  closed_found_among : (P : Placement → List ℤ → List ℤ → Type 0) (n : ℕ) (x : Placement) (u v : List ℤ) → IsNode n x → (ts : SearchTrees) (y : Placement) (f : ℕ) (ks : List ℕ) → IsNode n y → AreTrees P y f ks ts → 1 ≤ sum_by (is_it (closed_tuple x u v)) (pieces_of_all y f ks ts) → P x u v
  closed_found_among P n x u v hx no_trees y f [] hy h found = absurd (omega arith)
  closed_found_among P n x u v hx no_trees y f (k ∷ ks) hy h found = absurd h
  closed_found_among P n x u v hx (tree t rest) y f [] hy h found = absurd h
  closed_found_among P n x u v hx (tree t rest) y f (k ∷ ks) hy h found =
      elim (found_in (is_it (closed_tuple x u v)) (pieces (placing y f k) t) (pieces_of_all y f ks rest) found) as
      (λ (_ : (1 ≤ sum_by (is_it (closed_tuple x u v)) (pieces (placing y f k) t)) ⊎ (1 ≤ sum_by (is_it (closed_tuple x u v)) (pieces_of_all y f ks rest))). P x u v) [
        | inl here ↦ closed_found P n x u v hx t (placing y f k) (IsNode-placing n y f k hy) h.0 here
        | inr there ↦ closed_found_among P n x u v hx rest y f ks hy h.1 there
      ]

-- which tuples of closed nodes are found shows that their duals close them
abbrev pub FoundClose : Problem → ℤ → ℕ → List (List FieldValue) → Type 0
FoundClose I c n tuples = (x : Placement) (u v : List ℤ) → IsNode n x → 1 ≤ sum_by (is_it (closed_tuple x u v)) tuples → ClosesPart I c x u v

mutual
  -- a tree of the right shape, each of whose bounds closes its node
  valid_from : (I : Problem) (c : ℤ) (n : ℕ) (s : Node) (y : Placement) → IsPlacement y → IsNode n y → HasShape Second y.size y.facilities s → FoundClose I c n (pieces y (searched s)) → Valid I c y s
  valid_from I c n (bound u v) y placed hy h close =
      let itself = is_it-itself (closed_tuple y u v) in
      close y u v hy (omega arith)
  valid_from I c n (split f children) y placed hy h close = (
    h.0,
    h.1,
    all_valid_from I c n children y f (free_locations y) (children_placed y f placed h.1) hy (h.3 ∙ sym (free_location_count y placed)) h.4
        (λ x u v hx found. close x u v hx (let parts = sum_by-cons (is_it (closed_tuple x u v)) (split_tuple y f) (pieces_of_all y f (free_locations y) (searched_all children)) in omega arith)),
  )

  all_valid_from : (I : Problem) (c : ℤ) (n : ℕ) (ss : Nodes) (y : Placement) (f : ℕ) (ks : List ℕ) → ((j : ℕ) → j < length ks → IsPlacement (placing y f (get_or ks j 0))) → IsNode n y → child_count ss ≡ length ks → AllHaveShape Second y.size (y.facilities ++ f ∷ []) ss → FoundClose I c n (pieces_of_all y f ks (searched_all ss)) → AllValid I c y f ks ss
  all_valid_from I c n no_nodes y f [] placed hy count h close = tt
  all_valid_from I c n no_nodes y f (k ∷ ks) placed hy count h close = absurd (omega arith)
  all_valid_from I c n (node s rest) y f [] placed hy count h close = absurd (omega arith)
  all_valid_from I c n (node s rest) y f (k ∷ ks) placed hy count h close = (
    valid_from I c n s (placing y f k) (placed 0 (omega arith)) (IsNode-placing n y f k hy) h.0
        (λ x u v hx found. close x u v hx (let parts = sum_by-append (is_it (closed_tuple x u v)) (pieces (placing y f k) (searched s)) (pieces_of_all y f ks (searched_all rest)) in omega arith)),
    all_valid_from I c n rest y f ks (λ j less. placed (suc j) (omega arith)) hy (omega arith) h.1
        (λ x u v hx found. close x u v hx (let parts = sum_by-append (is_it (closed_tuple x u v)) (pieces (placing y f k) (searched s)) (pieces_of_all y f ks (searched_all rest)) in omega arith)),
  )

mutual
  -- a valid tree as a search tree
  tree_from_valid : (I : Problem) (c : ℤ) (s : Node) (y : Placement) → Valid I c y s → IsTree (ClosesPart I c) y (searched s)
  tree_from_valid I c (bound u v) y h = h
  tree_from_valid I c (split f children) y h = (h.0, h.1, trees_from_valid I c children y f (free_locations y) h.2)

  trees_from_valid : (I : Problem) (c : ℤ) (ss : Nodes) (y : Placement) (f : ℕ) (ks : List ℕ) → AllValid I c y f ks ss → AreTrees (ClosesPart I c) y f ks (searched_all ss)
  trees_from_valid I c no_nodes y f [] h = tt
  trees_from_valid I c no_nodes y f (k ∷ ks) h = absurd h
  trees_from_valid I c (node s rest) y f [] h = absurd h
  trees_from_valid I c (node s rest) y f (k ∷ ks) h = (tree_from_valid I c s (placing y f k) h.0, trees_from_valid I c rest y f ks h.1)

mutual
  -- the search tree of a certificate's tree has as many decided nodes as that has nodes
  node_count-searched : (s : Node) → decided_count (searched s) ≡ node_count s
  node_count-searched (bound u v) = refl
  node_count-searched (split f children) = ap (λ (n : ℕ). 1 + n) (nodes_count-searched_all children)

  nodes_count-searched_all : (ss : Nodes) → decided_counts (searched_all ss) ≡ nodes_count ss
  nodes_count-searched_all no_nodes = refl
  nodes_count-searched_all (node s rest) =
      let first = node_count-searched s in
      let others = nodes_count-searched_all rest in
      omega arith

-- the cost of a permutation is within the limits of a certificate's
entry_below : (n i j : ℕ) → i < n → j < n → i * n + j < n * n
entry_below n i j hi hj =
    let rows : suc i * n ≤ n * n = mul-le-mul_right n (omega arith) in
    omega arith

pair_bound : (I : Problem) (p : List ℕ) → IsInstance I → Permutes I p → (i j : ℕ) → i < I.size → j < I.size → unsigned_abs (pair_cost I p i j) ≤ 1000000000 * 1000000000
pair_bound I p inst h i j hi hj =
    let same = h.same_size in
    let within = h.bijection.within in
    let at_i : get_or p i 0 < I.size = omega (arith, within i) in
    let at_j : get_or p j 0 < I.size = omega (arith, within j) in
    subst (λ (m : ℕ). m ≤ 1000000000 * 1000000000) (sym (unsigned_abs-mul (entry I.size I.a i j) (entry I.size I.b (get_or p i 0) (get_or p j 0))))
    (mul-le _ _ _ _ (inst.a_range (i * I.size + j) (entry_below I.size i j hi hj)) (inst.b_range (get_or p i 0 * I.size + get_or p j 0) (entry_below I.size (get_or p i 0) (get_or p j 0) at_i at_j)))

-- what a permutation of an instance costs is from -10^24 to 10^24
pub cost_limited : (I : Problem) (p : List ℕ) → IsInstance I → Permutes I p → IsLimited (cost_of I p)
cost_limited I p inst h =
    let n = I.size in
    let row : (i : ℕ) → i < n → unsigned_abs (row_cost I p i) ≤ n * (1000000000 * 1000000000) = λ i hi. sum_to-bound (pair_cost I p i) n (1000000000 * 1000000000) (λ j hj. pair_bound I p inst h i j hi hj) in
    let all = sum_to-bound (row_cost I p) n (n * (1000000000 * 1000000000)) row in
    let rows : n * (1000000000 * 1000000000) ≤ 256 * (1000000000 * 1000000000) = mul-le _ _ _ _ inst.small (let itself : 1000000000 * 1000000000 ≤ 1000000000 * 1000000000 = omega arith in itself) in
    let square : n * (n * (1000000000 * 1000000000)) ≤ 256 * (256 * (1000000000 * 1000000000)) = mul-le _ _ _ _ inst.small rows in
    omega arith

-- the root of 1 to 256 facilities is a node
pub root_placement : (n : ℕ) → 0 < n → n ≤ 256 → IsPlacement (root_of n)
root_placement n positive small = record {
  positive = positive;
  small = small;
  paired = refl;
  facilities = record { within = λ j below. absurd (omega arith); distinct = λ j k hj hk e. absurd (omega arith) };
  places = record { within = λ j below. absurd (omega arith); distinct = λ j k hj hk e. absurd (omega arith) };
}

-- a cut tree without open nodes is that of a certificate
pub certificate_there : (I : Problem) (known : Best) (content : List (List FieldValue)) (commits : ℕ) → IsInstance I → IsCutTree (from_root I known) content commits → open_count content ≡ 0 → (C : Claim) × IsAssembled I.size content C
certificate_there I known content commits i h none =
    let root = root_of I.size in
    let apart = h.taken_apart open_weight in
    let parts = sum_by-cons open_weight (best_tuple h.cost h.permutation) (pieces root h.tree) in
    let done = finished (ClosesPart I h.cost) h.tree root h.valid (omega arith) in
    let limited = subst IsLimited h.costs (cost_limited I h.permutation i h.permutes) in
    let valid = subst (IsTree HasDuals root) done.1 (trees_by (ClosesPart I h.cost) HasDuals (λ x u v closes. closes.duals) h.tree root h.valid) in
    let same = h.permutes.same_size in
    let positive = i.positive in
    let small = i.small in (
      claim_of h.cost h.cost h.permutation done.0,
      record {
        certificate = record {
          cost = limited;
          bound = record { limited = limited; at_most = omega (arith, ints) };
          permutation = record { bijection = h.permutes.bijection; positive = omega arith; small = omega arith };
          tree = subst (λ (n : ℕ). HasShape Second n [] done.0) (sym same) (tree_shape done.0 root (root_placement I.size i.positive i.small) valid);
        };
        same_size = same;
        closed = refl;
        taken_apart = subst (λ (t : SearchTree). SameItems content (best_tuple h.cost h.permutation ∷ pieces root t)) done.1 h.taken_apart;
      },
    )

-- the permutation of a certificate, with its cost
abbrev pub best_of : Claim → Best
best_of C = record { cost = C.cost; permutation = C.permutation }

-- where the tuples of a cut tree are those of a search tree and a permutation, that is the best permutation
pub best_is : (I : Problem) (known : Best) (content : List (List FieldValue)) (commits : ℕ) (best : Best) (t : SearchTree) (h : IsCutTree (from_root I known) content commits) → SameItems content (tuple_of best ∷ pieces (root_of I.size) t) → record { cost = h.cost; permutation = h.permutation } ≡ best
best_is I known content commits best t h same =
    let root = root_of I.size in
    let found : Best = record { cost = h.cost; permutation = h.permutation } in
    let w = is_it (tuple_of best) in
    let parts = sum_by-cons w (tuple_of best) (pieces root t) in
    let itself = is_it-itself (tuple_of best) in
    let apart = h.taken_apart w in
    let there = same w in
    best_found best found h.tree root (ClosesPart I h.cost) h.valid (omega arith)

-- and a tuple of that tree's closed node is one of the cut tree's
pub closed_in_both : (I : Problem) (known : Best) (content : List (List FieldValue)) (commits : ℕ) (best : Best) (t : SearchTree) (h : IsCutTree (from_root I known) content commits) → SameItems content (tuple_of best ∷ pieces (root_of I.size) t) → FoundClose I h.cost I.size (pieces (root_of I.size) t)
closed_in_both I known content commits best t h same x u v hx found =
    let root = root_of I.size in
    let old : Best = record { cost = h.cost; permutation = h.permutation } in
    let w = is_it (closed_tuple x u v) in
    let apart = h.taken_apart w in
    let there = same w in
    let left = sum_by-cons w (tuple_of old) (pieces root h.tree) in
    let right = sum_by-cons w (tuple_of best) (pieces root t) in
    let other = is_it-other (closed_tuple x u v) (tuple_of old) (λ (d : 98 ≡ 99). omega arith) in
    closed_found (ClosesPart I h.cost) I.size x u v hx h.tree root (record { size = refl; paired = refl }) h.valid (omega arith)

-- the bounds of a certificate whose tuples are a cut tree close their nodes
certificate_valid : (I : Problem) (known : Best) (content : List (List FieldValue)) (commits : ℕ) (C : Claim) → IsCutTree (from_root I known) content commits → IsAssembled I.size content C → Valid I C.cost (root_of I.size) C.tree
certificate_valid I known content commits C h a =
    let n = I.size in
    let perm = a.certificate.permutation in
    let same = a.same_size in
    let positive = perm.positive in
    let small = perm.small in
    let shape = subst (λ (m : ℕ). HasShape Second m [] C.tree) a.same_size a.certificate.tree in
    let costs = ap (λ (b : Best). b.cost) (best_is I known content commits (best_of C) (searched C.tree) h a.taken_apart) in
    subst (λ (c : ℤ). Valid I c (root_of n) C.tree) costs
    (valid_from I h.cost n C.tree (root_of n) (root_placement n (omega arith) (omega arith)) (record { size = refl; paired = refl }) shape (closed_in_both I known content commits (best_of C) (searched C.tree) h a.taken_apart))

-- the certificate of a cut tree without open nodes certifies its cost as the least one
pub certificate_certifies : (I : Problem) (known : Best) (content : List (List FieldValue)) (commits : ℕ) (C : Claim) → IsCutTree (from_root I known) content commits → IsAssembled I.size content C → Certifies I C
certificate_certifies I known content commits C h a =
    let same = best_is I known content commits (best_of C) (searched C.tree) h a.taken_apart in
    record {
      same_size = a.same_size;
      cost = subst (λ (b : Best). cost_of I b.permutation ≡ b.cost) same h.costs;
      tree = subst (λ (g : ℤ). Valid I g (root_of I.size) C.tree) (sym a.closed) (certificate_valid I known content commits C h a);
    }

-- 1 at the tuple of a split or closed node
abbrev pub decided_weight : List FieldValue → ℕ
decided_weight t = cond (eqb (tag t) 115 || eqb (tag t) 99) 1 0

-- it has a node for each commit
pub certificate_counted : (I : Problem) (known : Best) (content : List (List FieldValue)) (commits : ℕ) (C : Claim) → IsCutTree (from_root I known) content commits → IsAssembled I.size content C → node_count C.tree ≡ commits
certificate_counted I known content commits C h a =
    let root = root_of I.size in
    let valid = tree_from_valid I C.cost C.tree root (certificate_valid I known content commits C h a) in
    let left = weighed decided_weight 1 (λ x. refl) (λ x f. refl) (λ x u v. refl) h.tree root (ClosesPart I h.cost) h.valid in
    let right = weighed decided_weight 1 (λ x. refl) (λ x f. refl) (λ x u v. refl) (searched C.tree) root (ClosesPart I C.cost) valid in
    let apart = h.taken_apart decided_weight in
    let assembled = a.taken_apart decided_weight in
    let one = sum_by-cons decided_weight (best_tuple h.cost h.permutation) (pieces root h.tree) in
    let other = sum_by-cons decided_weight (best_tuple C.cost C.permutation) (pieces root (searched C.tree)) in
    let count = node_count-searched C.tree in
    let counted = h.counted in
    omega arith
