use Rattle.qap_cost.proofs.Objectives.{cost_of-exchanged}
use Rattle.qap_cost.proofs.objective.exchange_law.Goals as goal

pub returns : goal.returns
returns c = cost_of-exchanged
