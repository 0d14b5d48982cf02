use Rattle.std.proofs.Common.{◌≡◌, ◌+◌, ◌*◌, drop}
use Rattle.qap_proof.proofs.Checks.{Checked}
use Rattle.qap_proof.specs.Memory.{node_of, nodes_of}
use Rattle.qap_proof.specs.NodeLine.{split_of}
use Rattle.qap_proof.specs.Tree.{node_count, nodes_count}
use Rattle.qap_proof.proofs.checking.+check.Given as goal

abbrev pub decreases-check_child : goal.decreases-check_child
decreases-check_child l = 3 * node_count (node_of l.tree.now)

abbrev pub decreases-check_split : goal.decreases-check_split
decreases-check_split l = 3 * nodes_count (nodes_of l.children.now) + 2

abbrev pub decreases-check_children : goal.decreases-check_children
decreases-check_children l = 3 * nodes_count (nodes_of l.children.now) + 1

-- the children before have been checked
abbrev pub invariant-check_children-loop-child : goal.invariant-check_children-loop-child
invariant-check_children-loop-child l =
    (Checked l.judge.instance.now l.judge.bound l.parent.node.now (split_of l.parent.split.now) l.line l.next l.child (nodes_of l.children) (nodes_of (drop l.child l.children))) × (l.rows ≡ l.judge.instance.now)
