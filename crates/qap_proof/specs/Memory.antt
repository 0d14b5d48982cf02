-- Trees in memory, and their contents.
use Rattle.std.specs.Prelude.{List, [], ◌∷◌, map}
use Rattle.qap_proof.specs.NodeLine.{kept_pair_of, split_of}
use Rattle.qap_proof.specs.Tree.{Node, closed, split, cut, mirrored, Nodes, no_nodes, node}
use Rattle.qap_proof.specs.declared.tree.Tree.{Tree}
use Rattle.qap_proof.specs.declared.tree.Tree.TheOpen.{Tree-F, Closed, Split, Cut, Mirrored}
use Rattle.qap_proof.specs.declared.tree.Tree.TheFolds.{fold-Tree}

-- nodes in a row
abbrev pub in_row : List Node → Nodes
in_row [] = no_nodes
in_row (t ∷ ts) = node t (in_row ts)

-- a tree's content, given that of its children
abbrev pub node_step : Tree-F Node → Node
node_step (Closed duals) = closed (kept_pair_of duals)
node_step (Split s children) = split (split_of s) (in_row children.items)
node_step Cut = cut
node_step (Mirrored earlier image) = mirrored earlier image

-- the content of a tree
abbrev pub node_of : Tree → Node
node_of = fold-Tree Node node_step

-- the content of trees in a row
abbrev pub nodes_of : List Tree → Nodes
nodes_of ts = in_row (map node_of ts)
