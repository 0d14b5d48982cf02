use Rattle.qap_proof.proofs.OneFault.{one_text_fault}
use Rattle.qap_proof.proofs.OneText.{no_text_fault, one_proof}
use Rattle.qap_proof.proofs.law.proof_text_law.Goals as goal

pub returns-clause-one : goal.returns-clause-one
returns-clause-one c = one_proof

pub returns-clause-faultless : goal.returns-clause-faultless
returns-clause-faultless c = no_text_fault

pub returns-clause-one_fault : goal.returns-clause-one_fault
returns-clause-one_fault c = one_text_fault
