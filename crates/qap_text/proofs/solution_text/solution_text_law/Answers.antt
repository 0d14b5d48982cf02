use Rattle.qap_text.proofs.FirstFaults.{one_solution_fault}
use Rattle.qap_text.proofs.SolutionReadings.{IsSolutionText-unique, IsSolutionText-right}
use Rattle.qap_text.proofs.solution_text.solution_text_law.Goals as goal

pub returns : goal.returns
returns c = record { one = IsSolutionText-unique; faultless = IsSolutionText-right; one_fault = one_solution_fault }
