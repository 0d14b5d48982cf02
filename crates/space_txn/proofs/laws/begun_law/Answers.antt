use Rattle.space_txn.proofs.EndingLemmas.{begun_accepted}
use Rattle.space_txn.proofs.laws.begun_law.Goals as goal

pub returns : goal.returns
returns c = begun_accepted
