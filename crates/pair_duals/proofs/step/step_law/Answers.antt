use Rattle.pair_duals.proofs.CostSteps.{step-divides}
use Rattle.pair_duals.proofs.step.step_law.Goals as goal

pub returns : goal.returns
returns c = step-divides
