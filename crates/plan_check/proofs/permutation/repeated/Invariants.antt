use Rattle.plan_check.specs.Apart.{AreApart}
use Rattle.plan_check.proofs.permutation.repeated.Given as goal

abbrev pub invariant-loop-j : goal.invariant-loop-j
invariant-loop-j l = AreApart l.numbers l.j
