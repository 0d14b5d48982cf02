use Rattle.proof_tree.proofs.Validity.{Valid-smaller}
use Rattle.proof_tree.proofs.law.monotone_law.Goals as goal

pub returns : goal.returns
returns c = λ I step bound smaller y above t less valid. Valid-smaller t I step bound smaller y above less valid
