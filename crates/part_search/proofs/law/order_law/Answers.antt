use Rattle.part_search.proofs.Replacing.{reordered}
use Rattle.part_search.proofs.law.order_law.Goals as goal

pub returns : goal.returns
returns c = reordered
