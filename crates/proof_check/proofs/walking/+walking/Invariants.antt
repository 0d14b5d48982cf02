use Rattle.std.proofs.Common.{◌+◌, ◌*◌, take}
use Rattle.qap_proof.specs.Shape.{free_count}
use Rattle.proof_tree.specs.Valid.{AllValid, under}
use Rattle.proof_check.specs.Completeness.{Any}
use Rattle.proof_check.specs.Walk.{WalksChildren}
use Rattle.proof_check.proofs.PassingChildren.{IsPassed}
use Rattle.proof_check.proofs.walking.+walking.Given as goal

abbrev pub decreases-walk_below : goal.decreases-walk_below
decreases-walk_below g l = 7 * free_count l.node.now + 6

abbrev pub decreases-walk_own : goal.decreases-walk_own
decreases-walk_own g l = 7 * free_count l.node.now + 5

abbrev pub decreases-walk_lined : goal.decreases-walk_lined
decreases-walk_lined g l = 7 * free_count l.node.now + 4

abbrev pub decreases-walk_split : goal.decreases-walk_split
decreases-walk_split g l = 7 * free_count l.node.now + 3

abbrev pub decreases-walk_children : goal.decreases-walk_children
decreases-walk_children g l = 7 * free_count l.parent.now.split.node.now + 2

abbrev pub decreases-walk_marked : goal.decreases-walk_marked
decreases-walk_marked g l = 7 * free_count l.parent.now.split.node.now + 1

abbrev pub decreases-walk_child : goal.decreases-walk_child
decreases-walk_child g l = 7 * free_count l.parent.now.split.node.now

abbrev pub invariant-walk_children-loop-child : goal.invariant-walk_children-loop-child
invariant-walk_children-loop-child g l =
    WalksChildren l.judge.instance.now l.judge.step l.judge.bound l.judge.cost l.parent.split.node.now (under l.parent.duals.now l.parent.form.now) l.parent.split.side l.parent.split.own 0 (take l.child l.marks) l.fn.reader l.reader l.fn.walk.leaves.items l.walk.leaves.items
    × IsPassed l.parent.split.node.now l.parent.split.side l.parent.split.own 0 (λ _. Any) l.child l.child l.marks l.fn.reader.left l.reader.left
    × IsPassed l.parent.split.node.now l.parent.split.side l.parent.split.own 0 (AllValid l.judge.instance.now l.judge.step l.judge.bound l.parent.split.node.now (under l.parent.duals.now l.parent.form.now) l.parent.split.side l.parent.split.own) l.child l.child l.marks l.fn.reader.left l.reader.left
