use Rattle.toml.specs.View.{view}
use Rattle.plan_file.proofs.Members.{bool_or_none}
use Rattle.plan_file.proofs.lookup.bool_in.Goals as goal

pub returns : goal.returns
returns c = bool_or_none (view c.args.value.now) c.as_bool.result c.as_bool.ensures
