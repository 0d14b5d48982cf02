use Rattle.qap_cost.proofs.Nodes.{whole_completed, whole_only, whole_cost}
use Rattle.qap_cost.proofs.placement.whole_node_law.Goals as goal

pub returns : goal.returns
returns c = record { completed = whole_completed; only = whole_only; cost = whole_cost }
