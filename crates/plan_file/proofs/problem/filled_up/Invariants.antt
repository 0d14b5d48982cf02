use Rattle.plan_file.specs.Filling.{IsFilledUp}
use Rattle.plan_file.proofs.problem.filled_up.Given as goal

abbrev pub invariant-loop-k : goal.invariant-loop-k
invariant-loop-k l = IsFilledUp l.departments l.flows l.places l.k l.filled.items
