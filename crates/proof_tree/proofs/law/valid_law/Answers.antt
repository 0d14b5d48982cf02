use Rattle.std.specs.Prelude.{Some}
use Rattle.proof_tree.specs.Valid.{under}
use Rattle.proof_tree.proofs.Validity.{Valid-NoneCompletesForLess}
use Rattle.proof_tree.proofs.law.valid_law.Goals as goal

pub returns : goal.returns
returns c = λ I step bound y D R t is same divides fit form valid. Valid-NoneCompletesForLess I step bound y (Some (under D R)) t is same divides (record { fit = fit; form = form }) valid
