use Rattle.part_search.proofs.steps.told_node.Goals as goal

pub returns-in-Err : goal.returns-in-Err
returns-in-Err c = record { stage = λ I k. c.refused.ensures.stage I k (rw c.in-Err.is at c.requires) }
