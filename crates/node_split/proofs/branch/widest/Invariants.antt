use Rattle.subtree_search.specs.Lines.{IsLineOf}
use Rattle.node_split.specs.Branch.{line_of}
use Rattle.node_split.proofs.branch.widest.Given as goal

abbrev pub invariant-loop-own : goal.invariant-loop-own
invariant-loop-own l = IsLineOf l.here.matrix.size (line_of l.best)

abbrev pub invariant-loop-own-2 : goal.invariant-loop-own-2
invariant-loop-own-2 l = IsLineOf l.here.matrix.size (line_of l.best)
