use Rattle.std.proofs.Common.{Some}
use Rattle.qap_search.specs.Worker.Hand.{thought_of}
use Rattle.qap_search.proofs.worker.best_steps.told_best.Goals as goal

pub returns-in-Err-clause-stage : goal.returns-in-Err-clause-stage
returns-in-Err-clause-stage c = λ I l p h. c.refused.ensures.stage I (Some (thought_of c.args.last.now)) (rw c.in-Err.is at h)
