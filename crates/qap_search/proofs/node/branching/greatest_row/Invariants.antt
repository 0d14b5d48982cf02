use Rattle.std.specs.Prelude.{◌<◌, length}
use Rattle.qap_search.proofs.node.branching.greatest_row.Given as goal

abbrev pub invariant-loop-r : goal.invariant-loop-r
invariant-loop-r l = l.row < length l.matching
