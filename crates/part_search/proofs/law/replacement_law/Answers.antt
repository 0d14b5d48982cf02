use Rattle.part_search.proofs.Replacing.{replacement}
use Rattle.part_search.proofs.law.replacement_law.Goals as goal

pub returns : goal.returns
returns c = replacement
