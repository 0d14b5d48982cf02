-- Search trees: how the permutations of an instance are split, and what closes each part, independent of where a tree
-- is stored in memory.
use Rattle.std.specs.Prelude.{ℕ, ◌+◌, List, [], ◌∷◌, map, ℤ}
use Rattle.number_list.specs.NumberList.{numbers_held}
use Rattle.qap_cert.specs.declared.tree.Tree.{Tree}
use Rattle.qap_cert.specs.declared.tree.Tree.TheOpen.{Tree-F, Split, Bound}
use Rattle.qap_cert.specs.declared.tree.Tree.TheFolds.{fold-Tree}

-- a split on a facility, with a child for each of its locations; a bound by duals
mutual
  -- a tree: a split on a facility with its children, or a bound by duals of rows and columns
  pub data Node : Type 0 where
    split : ℕ → Nodes → Node
    bound : List ℤ → List ℤ → Node

  -- nodes in a row, as the children of a split
  pub data Nodes : Type 0 where
    no_nodes : Nodes
    node : Node → Nodes → Nodes

-- nodes in a row
abbrev pub in_row : List Node → Nodes
in_row [] = no_nodes
in_row (t ∷ ts) = node t (in_row ts)

-- a tree's content, given that of its children
abbrev pub node_step : Tree-F Node → Node
node_step (Split facility children) = split facility (in_row children.items)
node_step (Bound u v) = bound (numbers_held u) (numbers_held v)

-- the content of a tree
abbrev pub node_of : Tree → Node
node_of = fold-Tree Node node_step

-- the content of trees in a row
abbrev pub nodes_of : List Tree → Nodes
nodes_of ts = in_row (map node_of ts)

-- how many nodes there are
abbrev mutual
  pub node_count : Node → ℕ
  node_count (split f children) = 1 + nodes_count children
  node_count (bound u v) = 1

  -- the same for nodes in a row
  pub nodes_count : Nodes → ℕ
  nodes_count no_nodes = 0
  nodes_count (node t rest) = node_count t + nodes_count rest
