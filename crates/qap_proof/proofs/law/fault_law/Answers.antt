use Rattle.qap_proof.proofs.Faults.{claim_fault, proof_fault}
use Rattle.qap_proof.proofs.FirstFaults.{one_claim_fault, one_fault}
use Rattle.qap_proof.proofs.law.fault_law.Goals as goal

pub returns-clause-proof : goal.returns-clause-proof
returns-clause-proof c = claim_fault

pub returns-clause-proved : goal.returns-clause-proved
returns-clause-proved c = proof_fault

pub returns-clause-one_of_shape : goal.returns-clause-one_of_shape
returns-clause-one_of_shape c = one_claim_fault

pub returns-clause-one : goal.returns-clause-one
returns-clause-one c = one_fault
