use Rattle.proof_check.proofs.Laws as laws
use Rattle.proof_check.proofs.law.verdict_law.Goals as goal

pub returns : goal.returns
returns c = record {
  optimal = laws.optimal;
  gap = laws.gap;
  part = laws.part;
}
