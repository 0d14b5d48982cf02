use Rattle.qap_search.proofs.worker.turn.told_begin.Goals as goal

pub returns-in-Err-clause-stage : goal.returns-in-Err-clause-stage
returns-in-Err-clause-stage c = λ I last. c.refused.ensures.stage I last tt
