use Rattle.std.proofs.Common.{◌+◌, ◌*◌, drop}
use Rattle.qap_cert.specs.Tree.{node_of, nodes_of, node_count, nodes_count}
use Rattle.qap_cert.proofs.Checks.{Checked}
use Rattle.qap_cert.proofs.checking.+check.Given as goal

abbrev pub decreases-check_tree : goal.decreases-check_tree
decreases-check_tree l = 2 * node_count (node_of l.tree.now)

abbrev pub decreases-check_children : goal.decreases-check_children
decreases-check_children l = 2 * nodes_count (nodes_of l.children.now) + 1

abbrev pub invariant-check_children-loop-i : goal.invariant-check_children-loop-i
invariant-check_children-loop-i l =
    Checked l.judge.ranked.now l.judge.bound l.parent.node.now l.parent.facility l.line l.next l.parent.locations.now (nodes_of l.children) (drop l.i l.parent.locations.now) (nodes_of (drop l.i l.children))
