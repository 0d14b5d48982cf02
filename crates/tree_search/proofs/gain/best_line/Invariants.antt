use Rattle.std.proofs.Common.{◌<◌}
use Rattle.tree_search.proofs.gain.best_line.Given as goal

abbrev pub invariant-loop-number : goal.invariant-loop-number
invariant-loop-number l = l.best.number < l.evaluation.matrix.size
