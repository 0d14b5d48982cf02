use Rattle.serde_json.specs.View.{view}
use Rattle.plan_check.proofs.Values.{text_found}
use Rattle.plan_check.proofs.lookup.text_in.Goals as goal

pub returns : goal.returns
returns c = text_found (view c.args.value.now) c.as_str.result c.as_str.ensures
