use Rattle.space_txn.proofs.RuleLemmas.{zero_lease_dead}
use Rattle.space_txn.proofs.laws.lease_law.Goals as goal

pub returns : goal.returns
returns c = zero_lease_dead
