use Rattle.plan_file.specs.Distances.{AreMeasured}
use Rattle.plan_file.proofs.distances.distance_matrix.Given as goal

abbrev pub invariant-loop-k : goal.invariant-loop-k
invariant-loop-k l = AreMeasured l.metric l.scale l.points l.n l.k l.entries.items
