use Rattle.qap_search.proofs.worker.turn.told_node.Goals as goal

pub returns-in-Ok-Some-clause-stage : goal.returns-in-Ok-Some-clause-stage
returns-in-Ok-Some-clause-stage c = λ I last h. c.took.ensures.stage I last (rw (c.in-Ok-Some.is, c.in-Ok-Some.field-0-is) at h)

pub returns-in-Err-clause-stage : goal.returns-in-Err-clause-stage
returns-in-Err-clause-stage c = λ I last h. c.refused.ensures.stage I last (rw c.in-Err.is at h)
