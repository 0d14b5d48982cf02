use Rattle.std.proofs.Common.{subst}
use Rattle.plan_file.specs.Choices.{AreApart}
use Rattle.plan_file.proofs.choosing.charging_of.Goals as goal

pub returns-clause-charging : goal.returns-clause-charging
returns-clause-charging c = record {
  costs = c.in_ok-costs.ensures.costs;
  forbidden = c.in_ok-forbidden.ensures.choices;
  allowed = c.in_ok-allowed.ensures.choices;
  some = c.in_ok-allowed.ensures.some;
  apart = subst (λ l. AreApart l c.in_ok-allowed.allowed.items) c.deref.ensures.value c.in_ok-allowed.ensures.apart;
}
