-- Trees in memory, and what they say: a split of children, and children one after another.
use Rattle.std.proofs.Common.{◌≡◌, ℕ, zero, suc, ◌+◌, ◌<◌, ◌≤◌, List, [], ◌∷◌, length, get_or, sym, ◌∙◌, ap, arith}
use Rattle.std.specs.declared.vec.Vec.{Vec}
use Rattle.std.specs.declared.alloc.Global.{Global}
use Rattle.qap_lines.specs.Line.{line_after}
use Rattle.qap_cert.specs.Shape.{child_count}
use Rattle.qap_cert.specs.Tree.{Node, split, node_step, node_of, nodes_of, node_count, nodes_count}
use Rattle.qap_cert.specs.declared.tree.Tree.{Tree}
use Rattle.qap_cert.specs.declared.tree.Tree.TheViews.{Split}
use Rattle.qap_cert.specs.declared.tree.Tree.TheVariants.{rolls-Split}
use Rattle.qap_cert.specs.declared.tree.Tree.TheOpen.{Split as Layer}
use Rattle.qap_cert.specs.declared.tree.Tree.TheFolds.{fold-roll-Tree}

-- what a split of these children says
pub node_of-Split : (t : Tree) (f : ℕ) (children : Vec Tree Global) → t ≡ Split f children → node_of t ≡ split f (nodes_of children.items)
node_of-Split t f children is = ap node_of is ∙ ap node_of (sym (rolls-Split f children)) ∙ fold-roll-Tree Node node_step (Layer f children)

-- there are as many nodes in the row as trees
pub child_count-nodes_of : (ts : List Tree) → child_count (nodes_of ts) ≡ length ts
child_count-nodes_of [] = omega arith
child_count-nodes_of (t ∷ ts) = omega (arith, child_count-nodes_of ts)

-- the line behind some nodes and then others
pub line_after-more : (line a b : ℕ) → line_after (line_after line a) b ≡ line_after line (a + b)
line_after-more line a b = omega arith

-- behind no nodes the line stays the same
pub line_after-none : (line : ℕ) → line ≤ 18446744073709551615 → line ≡ line_after line 0
line_after-none line h = omega arith

-- a child has no more nodes than all of them
pub node_count-le : (ts : List Tree) (i : ℕ) (d : Tree) → i < length ts → node_count (node_of (get_or ts i d)) ≤ nodes_count (nodes_of ts)
node_count-le [] i d h = absurd (omega arith)
node_count-le (t ∷ ts) zero d h = omega arith
node_count-le (t ∷ ts) (suc i) d h = let rest = node_count-le ts i d (omega arith) in omega (arith, rest)
