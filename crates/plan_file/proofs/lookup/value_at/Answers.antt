use Rattle.toml.proofs.Views.{table_get}
use Rattle.toml.specs.View.{table_view}
use Rattle.plan_file.proofs.Members.{found_at}
use Rattle.plan_file.proofs.lookup.value_at.Goals as goal

pub returns : goal.returns
returns c =
    found_at c.args.key.now (table_view c.args.table.now) c.get.result (table_get c.get.result c.args.key.now c.args.table.now.entries c.get.ensures.value)
