use Rattle.std.proofs.Common.{◌<◌, ◌∙◌, length, rules, subst, sym}
use Rattle.std.proofs.lemmas.List.Elements.{All-set}
use Rattle.qap_search.specs.Worker.Standing.{IsJob}
use Rattle.qap_search.specs.declared.worker.job.Job.{Job}
use Rattle.qap_search.proofs.worker.hand.Hand.turn_to.Goals as goal

pub invariant_of-self : goal.invariant_of-self
invariant_of-self c =
    let h = c.self.inside in
    let P : Job → Type 0 = IsJob h.rows h.tools in
    let below : c.args.other < length h.others.items = search rules in (
      subst P (sym (c.swap.ensures.x_after ∙ c.index_mut-other.ensures.value)) (c.self.invariant.1 c.args.other c.index_mut-other.result.now below),
      All-set P h.others.items c.args.other c.swap.new.y (subst P (sym c.swap.ensures.y_after) c.self.invariant.0) c.self.invariant.1,
    )
