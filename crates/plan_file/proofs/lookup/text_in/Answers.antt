use Rattle.toml.specs.View.{view}
use Rattle.plan_file.proofs.Members.{text_or_none}
use Rattle.plan_file.proofs.lookup.text_in.Goals as goal

pub returns : goal.returns
returns c = text_or_none (view c.args.value.now) c.as_str.result c.as_str.ensures
