use Rattle.serde_json.specs.View.{view}
use Rattle.plan_check.proofs.Values.{whole_found}
use Rattle.plan_check.proofs.lookup.whole_in.Goals as goal

pub returns : goal.returns
returns c = whole_found (view c.args.value.now) c.as_u64.result c.as_u64.ensures
