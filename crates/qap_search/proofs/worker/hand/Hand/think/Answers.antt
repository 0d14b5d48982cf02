use Rattle.std.proofs.Common.{◌∙◌}
use Rattle.qap_search.proofs.WorkerLemmas.Preparing.{nothing_prepared}
use Rattle.qap_search.proofs.WorkerLemmas.Thinkings.{hand_after, not_due_after, thinks}
use Rattle.qap_search.proofs.worker.hand.Hand.think.Goals as goal

pub invariant_of-self-2 : goal.invariant_of-self-2
invariant_of-self-2 g c =
    let due = rw (← c.self.view_is) at c.requires in
    let h = c.self.inside in (
      record {
        hand = rw (c.think_in.ensures.same)
            (hand_after h.rows h.tools h.job.last c.think_in.new.last h.job.stage c.stage_thought.result c.in_ok-considered.considered c.self.invariant.0.hand due (c.in_ok-considered.ensures.considers)
            (λ t number is. c.stage_thought.ensures t number (c.replace-stage.ensures.value ∙ is)));
        prepared = nothing_prepared _ _ c.forget.new.self c.forget.ensures;
      },
      rw (c.think_in.ensures.same) c.self.invariant.1,
    )

pub returns-clause-thought : goal.returns-clause-thought
returns-clause-thought g c =
    let due = rw (← c.self.view_is) at c.requires in
    let h = c.self.inside in
    rw (← c.self.view_is, c.think_in.ensures.same)
    (thinks h.rows h.tools.lease_ms h.tools h.job.last c.think_in.new.last h.job.stage c.stage_thought.result h.tally c.in_ok-considered.considered c.self.invariant.0.hand due (c.in_ok-considered.ensures.considers)
    (λ t number is. c.stage_thought.ensures t number (c.replace-stage.ensures.value ∙ is)))

pub returns-clause-not_due : goal.returns-clause-not_due
returns-clause-not_due g c =
    let due = rw (← c.self.view_is) at c.requires in
    not_due_after c.self.inside.job.stage c.stage_thought.result c.in_ok-considered.considered due (λ t number is. c.stage_thought.ensures t number (c.replace-stage.ensures.value ∙ is))
