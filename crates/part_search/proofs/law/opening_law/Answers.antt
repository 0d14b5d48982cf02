use Rattle.part_search.proofs.Replacing.{opening}
use Rattle.part_search.proofs.law.opening_law.Goals as goal

pub returns : goal.returns
returns c = opening
