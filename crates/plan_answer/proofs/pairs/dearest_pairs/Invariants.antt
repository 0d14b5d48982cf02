use Rattle.plan_answer.proofs.Kept.{AreDearestUpTo}
use Rattle.plan_answer.proofs.pairs.dearest_pairs.Given as goal

abbrev pub invariant-loop-from : goal.invariant-loop-from
invariant-loop-from l = AreDearestUpTo l.instance l.permutation l.most l.from 0 l.pairs.items

abbrev pub invariant-loop-to : goal.invariant-loop-to
invariant-loop-to l = AreDearestUpTo l.instance l.permutation l.most l.from l.to l.pairs.items
