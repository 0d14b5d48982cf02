use Rattle.qap_cost.proofs.Nodes.{root_completed}
use Rattle.qap_cost.proofs.placement.root_law.Goals as goal

pub returns : goal.returns
returns c = root_completed
