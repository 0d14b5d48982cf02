-- Trees in memory, and what they say.
use Rattle.std.proofs.Common.{◌≡◌, ℕ, suc, zero, ◌<◌, ◌≤◌, ◌++◌, ◌∷◌, [], List, length, get_or, refl, sym, ◌∙◌, ap, arith}
use Rattle.std.specs.declared.vec.Vec.{Vec}
use Rattle.std.specs.declared.alloc.Global.{Global}
use Rattle.qap_proof.proofs.Rows.{with_last}
use Rattle.qap_proof.specs.Memory.{node_step, node_of, nodes_of}
use Rattle.qap_proof.specs.NodeLine.{kept_pair_of, split_of}
use Rattle.qap_proof.specs.Tree.{Node, closed, split, cut, mirrored, node, node_count, nodes_count, child_count}
use Rattle.qap_proof.specs.declared.node_line.SplitLine.{SplitLine}
use Rattle.qap_proof.specs.declared.tree.KeptDuals.{KeptDuals}
use Rattle.qap_proof.specs.declared.tree.Tree.{Tree}
use Rattle.qap_proof.specs.declared.tree.Tree.TheViews.{Split as SplitTree}
use Rattle.qap_proof.specs.declared.tree.Tree.TheVariants.{Closed as ClosedTree, Cut as CutTree, Mirrored as MirroredTree, rolls-Closed, rolls-Split, rolls-Cut, rolls-Mirrored}
use Rattle.qap_proof.specs.declared.tree.Tree.TheOpen.{Closed as ClosedLayer, Split as SplitLayer, Cut as CutLayer, Mirrored as MirroredLayer}
use Rattle.qap_proof.specs.declared.tree.Tree.TheFolds.{fold-roll-Tree}

-- what a node of each form says
pub node_of-Closed : (t : Tree) (d : KeptDuals) → t ≡ ClosedTree d → node_of t ≡ closed (kept_pair_of d)
node_of-Closed t d is = ap node_of is ∙ ap node_of (sym (rolls-Closed d)) ∙ fold-roll-Tree Node node_step (ClosedLayer d)

-- a tree in memory that is split says the split and what its children say
pub node_of-Split : (t : Tree) (s : SplitLine) (children : Vec Tree Global) → t ≡ SplitTree s children → node_of t ≡ split (split_of s) (nodes_of children.items)
node_of-Split t s children is = ap node_of is ∙ ap node_of (sym (rolls-Split s children)) ∙ fold-roll-Tree Node node_step (SplitLayer s children)

-- the same for one that is cut
pub node_of-Cut : (t : Tree) → t ≡ CutTree → node_of t ≡ cut
node_of-Cut t is = ap node_of is ∙ ap node_of (sym rolls-Cut) ∙ fold-roll-Tree Node node_step CutLayer

-- the same for one that is mirrored
pub node_of-Mirrored : (t : Tree) (j : ℕ) (m : List ℕ) → t ≡ MirroredTree j m → node_of t ≡ mirrored j m
node_of-Mirrored t j m is = ap node_of is ∙ ap node_of (sym (rolls-Mirrored j m)) ∙ fold-roll-Tree Node node_step (MirroredLayer j m)

-- trees in a list are as many children as the list is long
pub child_count-nodes_of : (ts : List Tree) → child_count (nodes_of ts) ≡ length ts
child_count-nodes_of [] = omega arith
child_count-nodes_of (t ∷ ts) = omega (arith, child_count-nodes_of ts)

-- one tree more
pub nodes_of-push : (ts : List Tree) (t : Tree) → nodes_of (ts ++ t ∷ []) ≡ with_last (nodes_of ts) (node_of t)
nodes_of-push [] t = refl
nodes_of-push (x ∷ ts) t = ap (node (node_of x)) (nodes_of-push ts t)

-- a child has no more nodes than all of them
pub node_count-le : (ts : List Tree) (i : ℕ) (d : Tree) → i < length ts → node_count (node_of (get_or ts i d)) ≤ nodes_count (nodes_of ts)
node_count-le [] i d h = absurd (omega arith)
node_count-le (t ∷ ts) zero d h = omega arith
node_count-le (t ∷ ts) (suc i) d h = let rest = node_count-le ts i d (omega arith) in omega (arith, rest)
