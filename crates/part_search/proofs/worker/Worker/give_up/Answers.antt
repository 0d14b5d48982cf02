use Rattle.part_search.proofs.worker.Worker.give_up.Goals as goal

pub invariant_of-self : goal.invariant_of-self
invariant_of-self c = (c.self.invariant.0, record { incumbent = c.self.invariant.1.incumbent; stage_is = c.given_up.ensures.stage _ _ })
