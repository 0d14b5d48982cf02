use Rattle.std.proofs.Common.{◌≡◌, ◌+◌, ◌*◌}
use Rattle.qap_proof.specs.NodeLine.{split_of}
use Rattle.qap_proof.specs.Shape.{free_count}
use Rattle.qap_proof.specs.Walk.{BeginsWithTrees, IsToldOfAll}
use Rattle.qap_proof.proofs.walking.+walking.Given as goal

abbrev pub decreases-walk_child : goal.decreases-walk_child
decreases-walk_child l = 3 * free_count l.node.now + 2

abbrev pub decreases-walk_split : goal.decreases-walk_split
decreases-walk_split l = 3 * free_count l.node.now + 1

abbrev pub decreases-walk_children : goal.decreases-walk_children
decreases-walk_children l = 3 * free_count l.parent.now.node.now

abbrev pub invariant-walk_children-loop-child : goal.invariant-walk_children-loop-child
invariant-walk_children-loop-child l =
    (BeginsWithTrees l.parent.node.now (split_of l.parent.split.now) l.child l.line l.text l.walked.rest.now l.walked.next
    (IsToldOfAll l.judge.instance.now l.judge.bound l.parent.node.now (split_of l.parent.split.now) l.line l.fn.told l.walked.fault)) × (l.rows ≡ l.judge.instance.now)
