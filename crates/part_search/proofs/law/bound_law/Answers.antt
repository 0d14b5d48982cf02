use Rattle.part_search.proofs.Bounds.{bound}
use Rattle.part_search.proofs.law.bound_law.Goals as goal

pub returns : goal.returns
returns c = bound
