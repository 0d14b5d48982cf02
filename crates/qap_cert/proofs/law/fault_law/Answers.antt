use Rattle.qap_cert.proofs.Faults.{claim_fault, certificate_fault}
use Rattle.qap_cert.proofs.FirstFaults.{one_claim_fault, one_fault}
use Rattle.qap_cert.proofs.law.fault_law.Goals as goal

pub returns-clause-certificate : goal.returns-clause-certificate
returns-clause-certificate c = claim_fault

pub returns-clause-certified : goal.returns-clause-certified
returns-clause-certified c = certificate_fault

pub returns-clause-one_of_shape : goal.returns-clause-one_of_shape
returns-clause-one_of_shape c = one_claim_fault

pub returns-clause-one : goal.returns-clause-one
returns-clause-one c = one_fault
