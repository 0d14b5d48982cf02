use Rattle.assign_dual.proofs.Values.{row_values}
use Rattle.assign_dual.proofs.tree.row_at.Goals as goal

pub returns : goal.returns
returns g c = row_values g.N.Number.value c.args.n c.args.i c.args.entries.now c.requires.row c.requires.count
