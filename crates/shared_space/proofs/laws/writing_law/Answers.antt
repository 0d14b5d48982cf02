use Rattle.shared_space.proofs.WriteLemmas.{added_push}
use Rattle.shared_space.proofs.laws.writing_law.Goals as goal

pub returns : goal.returns
returns c = added_push
