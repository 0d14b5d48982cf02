use Rattle.toml.specs.View.{view}
use Rattle.plan_file.proofs.Members.{table_or_none}
use Rattle.plan_file.proofs.lookup.table_in.Goals as goal

pub returns : goal.returns
returns c = table_or_none (view c.args.value.now) c.as_table.result c.as_table.ensures
