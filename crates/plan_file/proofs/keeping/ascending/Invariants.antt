use Rattle.plan_file.specs.Sorting.{IsSortedTo}
use Rattle.plan_file.proofs.keeping.ascending.Given as goal

abbrev pub invariant-loop-f : goal.invariant-loop-f
invariant-loop-f l = IsSortedTo l.node l.f l.sorted
