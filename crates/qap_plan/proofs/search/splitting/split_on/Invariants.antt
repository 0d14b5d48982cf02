use Rattle.std.specs.Prelude.{◌≤ℤ◌}
use Rattle.qap_plan.specs.Splitting.{IsSkeleton}
use Rattle.qap_plan.proofs.search.splitting.split_on.Given as goal

abbrev pub invariant-loop : goal.invariant-loop
invariant-loop g l = IsSkeleton l.instance l.root l.finer × (l.finer.proof.cost ≤ℤ l.fn.skeleton.proof.cost)
