use Rattle.space_txn.proofs.RuleLemmas.{expired_changes_nothing}
use Rattle.space_txn.proofs.laws.expired_law.Goals as goal

pub returns : goal.returns
returns c = expired_changes_nothing
