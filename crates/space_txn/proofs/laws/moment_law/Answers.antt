use Rattle.space_txn.proofs.RuleLemmas.{moment_stays, moment_never_falls, earlier_changes_nothing}
use Rattle.space_txn.proofs.laws.moment_law.Goals as goal

pub returns : goal.returns
returns c = record { steps = moment_stays; advances = moment_never_falls; earlier = earlier_changes_nothing }
