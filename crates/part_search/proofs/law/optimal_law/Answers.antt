use Rattle.part_search.proofs.Bounds.{optimal}
use Rattle.part_search.proofs.law.optimal_law.Goals as goal

pub returns : goal.returns
returns c = optimal
