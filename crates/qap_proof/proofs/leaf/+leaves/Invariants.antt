use Rattle.std.proofs.Common.{◌≡◌, ◌+◌, ◌*◌, drop}
use Rattle.qap_proof.proofs.LeafLists.{Listed}
use Rattle.qap_proof.specs.Memory.{node_of, nodes_of}
use Rattle.qap_proof.specs.NodeLine.{split_of}
use Rattle.qap_proof.specs.Tree.{node_count, nodes_count}
use Rattle.qap_proof.proofs.leaf.+leaves.Given as goal

abbrev pub decreases-push_child : goal.decreases-push_child
decreases-push_child l = 3 * node_count (node_of l.tree.now)

abbrev pub decreases-push_split : goal.decreases-push_split
decreases-push_split l = 3 * nodes_count (nodes_of l.children.now) + 2

abbrev pub decreases-push_children : goal.decreases-push_children
decreases-push_children l = 3 * nodes_count (nodes_of l.children.now) + 1

-- the children before have been listed
abbrev pub invariant-push_children-loop-child : goal.invariant-push_children-loop-child
invariant-push_children-loop-child l =
    (Listed l.judge.instance.now l.judge.bound l.parent.node.now (split_of l.parent.split.now) l.child (nodes_of l.children) (nodes_of (drop l.child l.children)) l.initial.leaves.items l.leaves.items) × (l.rows ≡ l.judge.instance.now)
