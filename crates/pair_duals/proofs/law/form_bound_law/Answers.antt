use Rattle.pair_duals.proofs.Forms.{value-le}
use Rattle.pair_duals.proofs.law.form_bound_law.Goals as goal

pub returns : goal.returns
returns c = value-le
