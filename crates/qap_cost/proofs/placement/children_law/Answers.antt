use Rattle.qap_cost.proofs.Nodes.{child_of, child_is, parent_of}
use Rattle.qap_cost.proofs.Placements.{IsPlacement-placing}
use Rattle.qap_cost.proofs.placement.children_law.Goals as goal

pub returns : goal.returns
returns c = record { node = IsPlacement-placing; child = child_of; only = child_is; parent = parent_of }
