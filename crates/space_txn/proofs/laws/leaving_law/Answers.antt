use Rattle.space_txn.proofs.LeaseLemmas.{leaves_last, stays_held}
use Rattle.space_txn.proofs.laws.leaving_law.Goals as goal

pub returns : goal.returns
returns c = record { leaves = leaves_last; stays = stays_held }
