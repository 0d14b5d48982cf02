use Rattle.pair_duals.proofs.Forms.{start-le}
use Rattle.pair_duals.proofs.law.pair_duals_law.Goals as goal

pub returns : goal.returns
returns c = start-le
