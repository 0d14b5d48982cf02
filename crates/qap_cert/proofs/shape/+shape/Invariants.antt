use Rattle.std.proofs.Common.{drop}
use Rattle.qap_cert.specs.Tree.{nodes_of}
use Rattle.qap_cert.proofs.Shapes.{Judged}
use Rattle.qap_cert.proofs.shape.+shape.Given as goal

abbrev pub invariant-judge_trees-loop-tree : goal.invariant-judge_trees-loop-tree
invariant-judge_trees-loop-tree l = Judged l.size l.placed l.line l.next (nodes_of l.trees) (nodes_of (drop l.tree-index l.trees))
