-- The children before have been judged.
use Rattle.std.proofs.Common.{drop}
use Rattle.qap_proof.specs.Memory.{nodes_of}
use Rattle.qap_proof.specs.NodeLine.{split_of}
use Rattle.qap_proof.proofs.Shapes.{Judged}
use Rattle.qap_proof.proofs.shape.+shape.Given as goal

abbrev pub invariant-judge_children-loop-child : goal.invariant-judge_children-loop-child
invariant-judge_children-loop-child l =
    Judged l.node (split_of l.split) l.line l.next l.child (nodes_of l.children) (nodes_of (drop l.child l.children))
