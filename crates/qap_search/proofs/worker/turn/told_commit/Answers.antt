use Rattle.qap_search.proofs.worker.turn.told_commit.Goals as goal

pub returns-in-Err-Txn-default-clause-stage : goal.returns-in-Err-Txn-default-clause-stage
returns-in-Err-Txn-default-clause-stage c = λ I last h. c.not_committed.ensures.stage I last (rw c.in-Err-Txn-default.is at h)
