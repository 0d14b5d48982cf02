use Rattle.space_txn.proofs.RuleLemmas.{taken_unreadable, held_untakable}
use Rattle.space_txn.proofs.laws.holding_law.Goals as goal

pub returns : goal.returns
returns c = record { taken = taken_unreadable; held = held_untakable }
