use Rattle.space_txn.proofs.LeaseLemmas.{granted_at_commit}
use Rattle.space_txn.proofs.laws.granting_law.Goals as goal

pub returns : goal.returns
returns c = granted_at_commit
