use Rattle.plan_charge.specs.Extended.{IsTable}
use Rattle.plan_charge.specs.Forbidding.{raised_at}
use Rattle.plan_charge.proofs.forbidding.raised.Given as goal

abbrev pub invariant-loop-k : goal.invariant-loop-k
invariant-loop-k l = IsTable (raised_at l.n l.charges l.forbidden l.penalty.step) l.n l.k l.entries.items
