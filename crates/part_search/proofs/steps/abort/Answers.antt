use Rattle.part_search.proofs.steps.abort.Goals as goal

pub returns-in-Err-clause-stage : goal.returns-in-Err-clause-stage
returns-in-Err-clause-stage g c = λ I k. c.refused.ensures.stage I k tt
