use Rattle.gilmore_lawler.proofs.OneMatrix.{reduced_unique}
use Rattle.gilmore_lawler.proofs.bound.one_reduced_matrix_law.Goals as goal

pub returns : goal.returns
returns c = reduced_unique
