-- A search that was stopped: each open node is closed by the duals of a least assignment of its Gilmore-Lawler matrix.
use Rattle.std.specs.Prelude.{◌≡◌, ℕ, ◌+◌, ◌-◌, List, [], ◌∷◌, length, ℤ}
use Rattle.qap_cost.specs.Instance.{Problem}
use Rattle.qap_cost.specs.Matrix.{Square, Assigns, DualsFit, IsMatrix, assignment_cost, dual_value}
use Rattle.qap_cost.specs.Placement.{Placement, free_locations, placing}
use Rattle.gilmore_lawler.specs.ReducedMatrix.{IsReduced}
use Rattle.gilmore_lawler.specs.Closing.{AreDuals}
use Rattle.qap_cert.specs.Tree.{Node, split, bound, Nodes, no_nodes, node}
use Rattle.qap_search.specs.Law.SearchTree.{SearchTree, open_node, split_node, closed_node, SearchTrees, no_trees, tree}

-- the duals fit the Gilmore-Lawler matrix of x, and one of its assignments costs their sum, so that none costs less
pub record AreLeastDuals (I : Problem) (x : Placement) (u v : List ℤ) : Type 0 where
  pub matrix : Square
  pub square : IsMatrix matrix
  pub reduced : IsReduced I x matrix
  pub duals : AreDuals (x.size - length x.facilities) u v
  pub fits : DualsFit matrix u v
  pub matching : List ℕ
  pub assigns : Assigns matrix matching
  pub reached : dual_value u v ≡ assignment_cost matrix matching

abbrev mutual
  -- the same tree at x, whose open nodes are closed so
  pub ClosedTo : Problem → Placement → SearchTree → Node → Type 0
  ClosedTo I x open_node (bound u v) = AreLeastDuals I x u v
  ClosedTo I x (closed_node u v) (bound w z) = (u ≡ w) × (v ≡ z)
  ClosedTo I x (split_node f children) (split g nodes) = (f ≡ g) × AllClosedTo I x f (free_locations x) children nodes
  ClosedTo I x _ _ = ⊥

  -- the children, one for each of these locations of the facility
  pub AllClosedTo : Problem → Placement → ℕ → List ℕ → SearchTrees → Nodes → Type 0
  AllClosedTo I x f [] no_trees no_nodes = Unit {0}
  AllClosedTo I x f (k ∷ ks) (tree s rest) (node t nodes) = ClosedTo I (placing x f k) s t × AllClosedTo I x f ks rest nodes
  AllClosedTo I x f _ _ _ = ⊥

abbrev mutual
  -- how many nodes of the tree are open
  pub undecided_count : SearchTree → ℕ
  undecided_count open_node = 1
  undecided_count (split_node f children) = undecided_counts children
  undecided_count (closed_node u v) = 0

  -- the same for several trees together
  pub undecided_counts : SearchTrees → ℕ
  undecided_counts no_trees = 0
  undecided_counts (tree t rest) = undecided_count t + undecided_counts rest
