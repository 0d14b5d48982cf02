-- Trees whose open nodes are closed.
use Rattle.std.proofs.Common.{◌≡◌, ◌≢◌, ℕ, ◌+◌, inl, inr, List, [], ◌∷◌, ◌++◌, refl, sym, ap, ap₂, subst, ◌∙◌, arith, append_assoc}
use Rattle.std.specs.List.{AllZip}
use Rattle.std.specs.Prelude.{ℤ}
use Rattle.qap_cost.specs.Instance.{Problem}
use Rattle.qap_cost.specs.Placement.{Placement, free_locations, placing}
use Rattle.qap_cert.specs.Shape.{AllHaveShape, HasShape}
use Rattle.qap_cert.specs.Tree.{Node, split, bound, Nodes, no_nodes, node, node_count, nodes_count}
use Rattle.qap_cert.specs.declared.version.Version.TheVariants.{Second}
use Rattle.tuple_match.specs.FieldValue.{FieldValue}
use Rattle.qap_search.specs.Certificate.TreeBuilding.{AnyDuals}
use Rattle.qap_search.specs.Certificate.ClosedTuples.{IsClosedTuple}
use Rattle.qap_search.specs.Certificate.OpenNodes.{AreLeastDuals, AllClosedTo, ClosedTo, undecided_count, undecided_counts}
use Rattle.qap_search.specs.Tuples.Piece.{closed_tuple, node_list, node_tuple, pieces, pieces_of_all, split_tuple}
use Rattle.qap_search.specs.Law.SearchTree.{SearchTree, open_node, split_node, closed_node, SearchTrees, no_trees, tree, IsTree, AreTrees, decided_count, decided_counts, searched, searched_all}
use Rattle.qap_search.specs.Certificate.Stopped.{HasDuals}
use Rattle.qap_search.proofs.CertificateLemmas.OneTree.{closed_tag, split_tag}
use Rattle.qap_search.proofs.TupleLemmas.TupleReadings.{IsNode, IsNode-placing, list_at, same_node, tag}

mutual
  -- the closed tree has a decided node for each decided and each open one
  pub closed_count : (I : Problem) (s : SearchTree) (t : Node) (y : Placement) → ClosedTo I y s t → node_count t ≡ decided_count s + undecided_count s
  closed_count I open_node (bound u v) y h = refl
  closed_count I open_node (split f nodes) y h = absurd h
  closed_count I (closed_node u v) (bound w z) y h = refl
  closed_count I (closed_node u v) (split f nodes) y h = absurd h
  closed_count I (split_node f children) (bound u v) y h = absurd h
  closed_count I (split_node f children) (split g nodes) y h =
      let inner = closed_counts I children nodes y f (free_locations y) h.1 in
      omega arith

  closed_counts : (I : Problem) (ss : SearchTrees) (ts : Nodes) (y : Placement) (f : ℕ) (ks : List ℕ) → AllClosedTo I y f ks ss ts → nodes_count ts ≡ decided_counts ss + undecided_counts ss
  closed_counts I no_trees no_nodes y f [] h = refl
  closed_counts I no_trees no_nodes y f (k ∷ ks) h = absurd h
  closed_counts I no_trees (node t ts) y f [] h = absurd h
  closed_counts I no_trees (node t ts) y f (k ∷ ks) h = absurd h
  closed_counts I (tree s ss) no_nodes y f [] h = absurd h
  closed_counts I (tree s ss) no_nodes y f (k ∷ ks) h = absurd h
  closed_counts I (tree s ss) (node t ts) y f [] h = absurd h
  closed_counts I (tree s ss) (node t ts) y f (k ∷ ks) h =
      let first = closed_count I s t (placing y f k) h.0 in
      let others = closed_counts I ss ts y f ks h.1 in
      omega arith

mutual
  -- what a closed tree shows the search tree that it closes shows
  pub tree_from_closed : (I : Problem) (s : SearchTree) (t : Node) (y : Placement) → HasShape Second y.size y.facilities t → ClosedTo I y s t → IsTree HasDuals y s
  tree_from_closed I open_node t y shape h = tt
  tree_from_closed I (closed_node u v) (bound w z) y shape h =
      subst (λ (a : List ℤ). HasDuals y a v) (sym h.0) (subst (λ (b : List ℤ). HasDuals y w b) (sym h.1) shape)
  tree_from_closed I (closed_node u v) (split f nodes) y shape h = absurd h
  tree_from_closed I (split_node f children) (bound u v) y shape h = absurd h
  tree_from_closed I (split_node f children) (split g nodes) y shape h =
      subst (λ (e : ℕ). IsTree HasDuals y (split_node e children)) (sym h.0)
      (shape.0, shape.1, trees_from_closed I children nodes y g (free_locations y) shape.4 (subst (λ (e : ℕ). AllClosedTo I y e (free_locations y) children nodes) h.0 h.1))

  trees_from_closed : (I : Problem) (ss : SearchTrees) (ts : Nodes) (y : Placement) (f : ℕ) (ks : List ℕ) → AllHaveShape Second y.size (y.facilities ++ f ∷ []) ts → AllClosedTo I y f ks ss ts → AreTrees HasDuals y f ks ss
  trees_from_closed I no_trees no_nodes y f [] shape h = tt
  trees_from_closed I no_trees no_nodes y f (k ∷ ks) shape h = absurd h
  trees_from_closed I no_trees (node t ts) y f [] shape h = absurd h
  trees_from_closed I no_trees (node t ts) y f (k ∷ ks) shape h = absurd h
  trees_from_closed I (tree s ss) no_nodes y f [] shape h = absurd h
  trees_from_closed I (tree s ss) no_nodes y f (k ∷ ks) shape h = absurd h
  trees_from_closed I (tree s ss) (node t ts) y f [] shape h = absurd h
  trees_from_closed I (tree s ss) (node t ts) y f (k ∷ ks) shape h = (tree_from_closed I s t (placing y f k) shape.0 h.0, trees_from_closed I ss ts y f ks shape.1 h.1)

mutual
  -- and back, where least duals show what closed nodes are to
  pub closed_tree : (I : Problem) (s : SearchTree) (t : Node) (y : Placement) → IsTree HasDuals y s → ClosedTo I y s t → IsTree HasDuals y (searched t)
  closed_tree I open_node (bound u v) y valid h = h.duals
  closed_tree I open_node (split f nodes) y valid h = absurd h
  closed_tree I (closed_node u v) (bound w z) y valid h =
      subst (λ (a : List ℤ). HasDuals y a z) h.0 (subst (λ (b : List ℤ). HasDuals y u b) h.1 valid)
  closed_tree I (closed_node u v) (split f nodes) y valid h = absurd h
  closed_tree I (split_node f children) (bound u v) y valid h = absurd h
  closed_tree I (split_node f children) (split g nodes) y valid h =
      subst (λ (e : ℕ). IsTree HasDuals y (searched (split e nodes))) h.0 (valid.0, valid.1, closed_trees I children nodes y f (free_locations y) valid.2 h.1)

  closed_trees : (I : Problem) (ss : SearchTrees) (ts : Nodes) (y : Placement) (f : ℕ) (ks : List ℕ) → AreTrees HasDuals y f ks ss → AllClosedTo I y f ks ss ts → AreTrees HasDuals y f ks (searched_all ts)
  closed_trees I no_trees no_nodes y f [] valid h = tt
  closed_trees I no_trees no_nodes y f (k ∷ ks) valid h = absurd h
  closed_trees I no_trees (node t ts) y f [] valid h = absurd h
  closed_trees I no_trees (node t ts) y f (k ∷ ks) valid h = absurd h
  closed_trees I (tree s ss) no_nodes y f [] valid h = absurd h
  closed_trees I (tree s ss) no_nodes y f (k ∷ ks) valid h = absurd h
  closed_trees I (tree s ss) (node t ts) y f [] valid h = absurd h
  closed_trees I (tree s ss) (node t ts) y f (k ∷ ks) valid h = (closed_tree I s t (placing y f k) valid.0 h.0, closed_trees I ss ts y f ks valid.1 h.1)

-- the tuples begin with those of a search tree that is closed to t
pub record IsOpened (I : Problem) (y : Placement) (t : Node) (tuples rest : List (List FieldValue)) : Type 0 where
  pub search : SearchTree
  pub behind : List (List FieldValue)
  pub is : tuples ≡ pieces y search ++ behind
  pub others : AllZip (IsClosedTuple I) behind rest
  pub closed : ClosedTo I y search t

-- the same for the children of a split of y, from number c on
pub record AreOpened (I : Problem) (y : Placement) (f : ℕ) (ks : List ℕ) (ts : Nodes) (tuples rest : List (List FieldValue)) : Type 0 where
  pub searches : SearchTrees
  pub behind : List (List FieldValue)
  pub is : tuples ≡ pieces_of_all y f ks searches ++ behind
  pub others : AllZip (IsClosedTuple I) behind rest
  pub closed : AllClosedTo I y f ks searches ts

-- a tuple that becomes that of the node y, closed, is that of y, open or closed so
opened_here : (I : Problem) (y : Placement) (u v : List ℤ) → IsNode I.size y → (w : List FieldValue) (ws rest : List (List FieldValue)) → IsClosedTuple I w (closed_tuple y u v) → AllZip (IsClosedTuple I) ws rest → IsOpened I y (bound u v) (w ∷ ws) rest
opened_here I y u v hy w ws rest (inl same) h = record {
  search = closed_node u v;
  behind = ws;
  is = ap (λ (a : List FieldValue). a ∷ ws) (sym same.1);
  others = h;
  closed = (refl, refl);
}
opened_here I y u v hy w ws rest (inr c) h =
    let x = c.node in
    let is = c.closed.is in
    let same : x ≡ y = same_node I.size x y (record { size = c.size; paired = c.placement.paired }) hy (ap (list_at 1) (sym is)) in
    record {
      search = open_node;
      behind = ws;
      is = ap (λ (a : List FieldValue). a ∷ ws) (c.is ∙ ap node_tuple same);
      others = h;
      closed =
          subst (λ (z : Placement). AreLeastDuals I z u v) same
          (subst (λ (a : List ℤ). AreLeastDuals I x a v) (ap (list_at 2) (sym is)) (subst (λ (b : List ℤ). AreLeastDuals I x c.closed.u b) (ap (list_at 3) (sym is)) c.closed.least));
    }

-- so is the tuple of a split
split_stays : (I : Problem) (y : Placement) (f : ℕ) (w : List FieldValue) → IsClosedTuple I w (split_tuple y f) → w ≡ split_tuple y f
split_stays I y f w (inl same) = sym same.1
split_stays I y f w (inr c) = let differ : split_tag ≡ closed_tag = ap tag c.closed.is in absurd (omega arith)

mutual
  -- tuples that are closed to those of a tree and more begin with those of a search tree that is closed to it
  pub opened : (I : Problem) (t : Node) (y : Placement) → IsNode I.size y → IsTree AnyDuals y (searched t) → (ws rest : List (List FieldValue)) → AllZip (IsClosedTuple I) ws (pieces y (searched t) ++ rest) → IsOpened I y t ws rest
  opened I (bound u v) y hy valid [] rest h = absurd h
  opened I (bound u v) y hy valid (w ∷ ws) rest h = opened_here I y u v hy w ws rest h.0 h.1
  opened I (split f children) y hy valid [] rest h = absurd h
  opened I (split f children) y hy valid (w ∷ ws) rest h =
      let inner = all_opened I children y f (free_locations y) hy valid.2 ws rest h.1 in
      record {
        search = split_node f inner.searches;
        behind = inner.behind;
        is = ap₂ (λ (a : List FieldValue) (b : List (List FieldValue)). a ∷ b) (split_stays I y f w h.0) inner.is;
        others = inner.others;
        closed = (refl, inner.closed);
      }

  all_opened : (I : Problem) (ts : Nodes) (y : Placement) (f : ℕ) (ks : List ℕ) → IsNode I.size y → AreTrees AnyDuals y f ks (searched_all ts) → (ws rest : List (List FieldValue)) → AllZip (IsClosedTuple I) ws (pieces_of_all y f ks (searched_all ts) ++ rest) → AreOpened I y f ks ts ws rest
  all_opened I no_nodes y f [] hy valid ws rest h = record { searches = no_trees; behind = ws; is = refl; others = h; closed = tt }
  all_opened I no_nodes y f (k ∷ ks) hy valid ws rest h = absurd valid
  all_opened I (node t ts) y f [] hy valid ws rest h = absurd valid
  all_opened I (node t ts) y f (k ∷ ks) hy valid ws rest h =
      let x = placing y f k in
      let later = pieces_of_all y f ks (searched_all ts) in
      let first = opened I t x (IsNode-placing I.size y f k hy) valid.0 ws (later ++ rest) (subst (AllZip (IsClosedTuple I) ws) (append_assoc (pieces x (searched t)) later rest) h) in
      let others = all_opened I ts y f ks hy valid.1 first.behind rest first.others in
      record {
        searches = tree first.search others.searches;
        behind = others.behind;
        is =
            first.is
            ∙ ap (λ (a : List (List FieldValue)). pieces x first.search ++ a) others.is
            ∙ sym (append_assoc (pieces x first.search) (pieces_of_all y f ks others.searches) others.behind);
        others = others.others;
        closed = (first.closed, others.closed);
      }

-- the tuples begin with those of a tree that closes s
pub record IsShut (I : Problem) (y : Placement) (s : SearchTree) (tuples rest : List (List FieldValue)) : Type 0 where
  pub tree_of : Node
  pub behind : List (List FieldValue)
  pub is : tuples ≡ pieces y (searched tree_of) ++ behind
  pub others : AllZip (IsClosedTuple I) rest behind
  pub closed : ClosedTo I y s tree_of

-- the same for the children of a split of y, from number c on
pub record AreShut (I : Problem) (y : Placement) (f : ℕ) (ks : List ℕ) (ss : SearchTrees) (tuples rest : List (List FieldValue)) : Type 0 where
  pub trees_of : Nodes
  pub behind : List (List FieldValue)
  pub is : tuples ≡ pieces_of_all y f ks (searched_all trees_of) ++ behind
  pub others : AllZip (IsClosedTuple I) rest behind
  pub closed : AllClosedTo I y f ks ss trees_of

-- the tuple of an open node becomes that of the node, closed
shut_here : (I : Problem) (y : Placement) → IsNode I.size y → (w : List FieldValue) (ws rest : List (List FieldValue)) → IsClosedTuple I (node_tuple y) w → AllZip (IsClosedTuple I) rest ws → IsShut I y open_node (w ∷ ws) rest
shut_here I y hy w ws rest (inl same) h = absurd (same.0 (node_list y) refl)
shut_here I y hy w ws rest (inr c) h =
    let x = c.node in
    let same : x ≡ y = same_node I.size x y (record { size = c.size; paired = c.placement.paired }) hy (ap (list_at 1) (sym c.is)) in
    record {
      tree_of = bound c.closed.u c.closed.v;
      behind = ws;
      is = ap (λ (a : List FieldValue). a ∷ ws) (c.closed.is ∙ ap (λ (z : Placement). closed_tuple z c.closed.u c.closed.v) same);
      others = h;
      closed = subst (λ (z : Placement). AreLeastDuals I z c.closed.u c.closed.v) same c.closed.least;
    }

-- that of another stays
pub other_stays : (I : Problem) (w new : List FieldValue) → tag w ≢ 110 → IsClosedTuple I w new → new ≡ w
other_stays I w new other (inl same) = same.1
other_stays I w new other (inr c) = absurd (other (ap tag c.is))

mutual
  -- closed tuples that come from those of a search tree and more begin with those of a tree to which it is closed
  pub shut : (I : Problem) (s : SearchTree) (y : Placement) → IsNode I.size y → IsTree HasDuals y s → (ws rest : List (List FieldValue)) → AllZip (IsClosedTuple I) (pieces y s ++ rest) ws → IsShut I y s ws rest
  shut I open_node y hy valid [] rest h = absurd h
  shut I open_node y hy valid (w ∷ ws) rest h = shut_here I y hy w ws rest h.0 h.1
  shut I (closed_node u v) y hy valid [] rest h = absurd h
  shut I (closed_node u v) y hy valid (w ∷ ws) rest h = record {
    tree_of = bound u v;
    behind = ws;
    is = ap (λ (a : List FieldValue). a ∷ ws) (other_stays I (closed_tuple y u v) w (λ (e : 99 ≡ 110). omega arith) h.0);
    others = h.1;
    closed = (refl, refl);
  }
  shut I (split_node f children) y hy valid [] rest h = absurd h
  shut I (split_node f children) y hy valid (w ∷ ws) rest h =
      let inner = all_shut I children y f (free_locations y) hy valid.2 ws rest h.1 in
      record {
        tree_of = split f inner.trees_of;
        behind = inner.behind;
        is = ap₂ (λ (a : List FieldValue) (b : List (List FieldValue)). a ∷ b) (other_stays I (split_tuple y f) w (λ (e : 115 ≡ 110). omega arith) h.0) inner.is;
        others = inner.others;
        closed = (refl, inner.closed);
      }

  all_shut : (I : Problem) (ss : SearchTrees) (y : Placement) (f : ℕ) (ks : List ℕ) → IsNode I.size y → AreTrees HasDuals y f ks ss → (ws rest : List (List FieldValue)) → AllZip (IsClosedTuple I) (pieces_of_all y f ks ss ++ rest) ws → AreShut I y f ks ss ws rest
  all_shut I no_trees y f [] hy valid ws rest h = record { trees_of = no_nodes; behind = ws; is = refl; others = h; closed = tt }
  all_shut I no_trees y f (k ∷ ks) hy valid ws rest h = absurd valid
  all_shut I (tree s ss) y f [] hy valid ws rest h = absurd valid
  all_shut I (tree s ss) y f (k ∷ ks) hy valid ws rest h =
      let x = placing y f k in
      let later = pieces_of_all y f ks ss in
      let first = shut I s x (IsNode-placing I.size y f k hy) valid.0 ws (later ++ rest) (subst (λ (a : List (List FieldValue)). AllZip (IsClosedTuple I) a ws) (append_assoc (pieces x s) later rest) h) in
      let others = all_shut I ss y f ks hy valid.1 first.behind rest first.others in
      record {
        trees_of = node first.tree_of others.trees_of;
        behind = others.behind;
        is =
            first.is
            ∙ ap (λ (a : List (List FieldValue)). pieces x (searched first.tree_of) ++ a) others.is
            ∙ sym (append_assoc (pieces x (searched first.tree_of)) (pieces_of_all y f ks (searched_all others.trees_of)) others.behind);
        others = others.others;
        closed = (first.closed, others.closed);
      }
