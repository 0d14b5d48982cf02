use Rattle.std.proofs.Common.{◌+◌, ◌*◌, take}
use Rattle.qap_proof.specs.Shape.{free_count}
use Rattle.proof_check.specs.Completeness.{Any}
use Rattle.proof_check.specs.Walk.{SkimsChildren}
use Rattle.proof_check.proofs.PassingChildren.{IsPassed}
use Rattle.proof_check.proofs.skimming.+skimming.Given as goal

abbrev pub decreases-skim_below : goal.decreases-skim_below
decreases-skim_below g l = 7 * free_count l.node.now + 6

abbrev pub decreases-skim_own : goal.decreases-skim_own
decreases-skim_own g l = 7 * free_count l.node.now + 5

abbrev pub decreases-skim_lined : goal.decreases-skim_lined
decreases-skim_lined g l = 7 * free_count l.node.now + 4

abbrev pub decreases-skim_split : goal.decreases-skim_split
decreases-skim_split g l = 7 * free_count l.node.now + 3

abbrev pub decreases-skim_children : goal.decreases-skim_children
decreases-skim_children g l = 7 * free_count l.split.now.node.now + 2

abbrev pub decreases-skim_marked : goal.decreases-skim_marked
decreases-skim_marked g l = 7 * free_count l.split.now.node.now + 1

abbrev pub decreases-skim_child : goal.decreases-skim_child
decreases-skim_child g l = 7 * free_count l.split.now.node.now

abbrev pub invariant-skim_children-loop-place : goal.invariant-skim_children-loop-place
invariant-skim_children-loop-place g l =
    SkimsChildren l.split.node.now l.split.side l.split.own l.first (take l.place l.marks) l.fn.reader l.reader
    × IsPassed l.split.node.now l.split.side l.split.own l.first (λ _. Any) (l.first + l.place) l.place l.marks l.fn.reader.left l.reader.left
