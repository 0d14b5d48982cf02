use Rattle.qap_proof.proofs.Validity.{Proves-NoneCompletesForLess, Proves-IsLeast}
use Rattle.qap_proof.proofs.law.proof_law.Goals as goal

pub returns-clause-bound : goal.returns-clause-bound
returns-clause-bound c = Proves-NoneCompletesForLess

pub returns-clause-least : goal.returns-clause-least
returns-clause-least c = Proves-IsLeast
