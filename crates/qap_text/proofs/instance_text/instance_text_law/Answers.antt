use Rattle.qap_text.proofs.FirstFaults.{one_instance_fault}
use Rattle.qap_text.proofs.InstanceReadings.{IsInstanceText-unique, IsInstanceText-right}
use Rattle.qap_text.proofs.instance_text.instance_text_law.Goals as goal

pub returns : goal.returns
returns c = record { one = IsInstanceText-unique; faultless = IsInstanceText-right; one_fault = one_instance_fault }
