use Rattle.pair_duals.proofs.Forms.{row_duals-le}
use Rattle.pair_duals.proofs.law.closing_law.Goals as goal

pub returns : goal.returns
returns c = row_duals-le
