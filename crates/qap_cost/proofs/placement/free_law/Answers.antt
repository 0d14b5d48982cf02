use Rattle.qap_cost.proofs.Placements.{ListsFree-free_below}
use Rattle.qap_cost.proofs.placement.free_law.Goals as goal

pub returns : goal.returns
returns c = ListsFree-free_below
