use Rattle.qap_cost.proofs.Matrices.{dual_value-le}
use Rattle.qap_cost.proofs.matrix.weak_duality_law.Goals as goal

pub returns : goal.returns
returns c = dual_value-le
