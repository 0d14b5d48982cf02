use Rattle.qap_proof.proofs.Validity.{Valid-NoneCompletesForLess}
use Rattle.qap_proof.proofs.law.tree_law.Goals as goal

pub returns : goal.returns
returns c = Valid-NoneCompletesForLess
