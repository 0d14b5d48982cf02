use Rattle.pair_duals.specs.Reduced.{count_of}
use Rattle.subtree_search.specs.Lines.{IsLineOf}
use Rattle.subtree_search.proofs.dives.ranked_line.Given as goal

abbrev pub invariant-loop-k : goal.invariant-loop-k
invariant-loop-k l = IsLineOf (count_of l.level.form) l.line
