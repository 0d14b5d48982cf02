use Rattle.plan_check.proofs.Values.{value_found}
use Rattle.plan_check.proofs.lookup.value_at.Goals as goal

pub returns : goal.returns
returns c = value_found _ c.get.result c.get.ensures
