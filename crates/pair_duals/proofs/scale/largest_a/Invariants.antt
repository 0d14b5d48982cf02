use Rattle.pair_duals.specs.Largest.{IsLargestSoFar}
use Rattle.pair_duals.proofs.scale.largest_a.Given as goal

abbrev pub invariant-loop-i : goal.invariant-loop-i
invariant-loop-i l = IsLargestSoFar l.instance.size l.instance.a l.i l.largest
