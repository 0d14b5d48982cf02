use Rattle.toml.specs.View.{view}
use Rattle.plan_file.proofs.Members.{number_or_none}
use Rattle.plan_file.proofs.lookup.number_in.Goals as goal

pub returns : goal.returns
returns c = number_or_none (view c.args.value.now) c.as_integer.result c.as_integer.ensures
