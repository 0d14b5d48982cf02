use Rattle.pair_duals.specs.Start.{AreFirst}
use Rattle.pair_duals.proofs.start.first_numbers.Given as goal

abbrev pub invariant-loop-k : goal.invariant-loop-k
invariant-loop-k l = AreFirst l.k l.list.items
