use Rattle.proof_tree.proofs.Multiples.{reaches-greatest}
use Rattle.proof_tree.proofs.law.reaching_law.Goals as goal

pub returns : goal.returns
returns c = reaches-greatest
