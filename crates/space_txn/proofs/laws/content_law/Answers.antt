use Rattle.space_txn.proofs.ContentLemmas.{step_keeps, begin_keeps, advance_step_keeps}
use Rattle.space_txn.proofs.laws.content_law.Goals as goal

pub returns : goal.returns
returns c = record { steps = step_keeps; begins = begin_keeps; advances = advance_step_keeps }
