use Rattle.std.proofs.Common.{subst}
use Rattle.plan_file.specs.Choices.{AreApart}
use Rattle.plan_file.proofs.choosing.allowed_at.Goals as goal

pub returns-clause-apart : goal.returns-clause-apart
returns-clause-apart c = subst (AreApart c.args.others.now) c.deref-2.ensures.value c.in_ok-check_apart.ensures.apart
