-- Search trees that may be unfinished: how the permutations that complete a node are split, what proves for each part that none
-- costs less than some cost, and which parts are open.
use Rattle.std.specs.Prelude.{ℕ, ◌+◌, ◌<◌, List, [], ◌∷◌, length, ℤ}
use Rattle.qap_cost.specs.Placement.{Placement, IsFreeFacility, free_locations, placing}
use Rattle.qap_cert.specs.Tree.{Node, split, bound, Nodes, no_nodes, node}

mutual
  -- a node that is open; a split on a facility, with a child for each of its locations; or a node that duals close
  pub data SearchTree : Type 0 where
    open_node : SearchTree
    split_node : ℕ → SearchTrees → SearchTree
    closed_node : List ℤ → List ℤ → SearchTree

  -- the trees of the children of a split, in order
  pub data SearchTrees : Type 0 where
    no_trees : SearchTrees
    tree : SearchTree → SearchTrees → SearchTrees

abbrev mutual
  -- a tree at x: a split is on a free facility and has a child for each free location, ascending; and duals that close a node
  -- satisfy P there
  pub IsTree : (Placement → List ℤ → List ℤ → Type 0) → Placement → SearchTree → Type 0
  IsTree P x open_node = Unit {0}
  IsTree P x (split_node f children) =
      (length x.facilities < x.size) × IsFreeFacility x f × AreTrees P x f (free_locations x) children
  IsTree P x (closed_node u v) = P x u v

  -- a tree for each of these locations of the facility
  pub AreTrees : (Placement → List ℤ → List ℤ → Type 0) → Placement → ℕ → List ℕ → SearchTrees → Type 0
  AreTrees P x f [] no_trees = Unit {0}
  AreTrees P x f (k ∷ ks) (tree t rest) = IsTree P (placing x f k) t × AreTrees P x f ks rest
  AreTrees P x f _ _ = ⊥

abbrev mutual
  -- how many nodes of the tree are split or closed
  pub decided_count : SearchTree → ℕ
  decided_count open_node = 0
  decided_count (split_node f children) = 1 + decided_counts children
  decided_count (closed_node u v) = 1

  -- the same for several trees together
  pub decided_counts : SearchTrees → ℕ
  decided_counts no_trees = 0
  decided_counts (tree t rest) = decided_count t + decided_counts rest

-- all of them are open
abbrev pub AreOpen : SearchTrees → Type 0
AreOpen no_trees = Unit {0}
AreOpen (tree open_node rest) = AreOpen rest
AreOpen (tree _ rest) = ⊥

abbrev mutual
  -- the search tree of a certificate's tree, in which no node is open
  pub searched : Node → SearchTree
  searched (split f children) = split_node f (searched_all children)
  searched (bound u v) = closed_node u v

  -- the same for each of several trees
  pub searched_all : Nodes → SearchTrees
  searched_all no_nodes = no_trees
  searched_all (node t rest) = tree (searched t) (searched_all rest)

-- an open node for each of these locations
abbrev pub open_row : List ℕ → SearchTrees
open_row [] = no_trees
open_row (k ∷ ks) = tree open_node (open_row ks)

-- x split on facility f, with all children open
abbrev pub split_open : Placement → ℕ → SearchTree
split_open x f = split_node f (open_row (free_locations x))
