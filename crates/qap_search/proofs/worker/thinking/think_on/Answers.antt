use Rattle.std.proofs.Common.{◌∙◌, Option, subst, sym}
use Rattle.qap_cost.specs.Instance.{Problem}
use Rattle.qap_search.specs.Worker.Considering.{IsThoughtOn}
use Rattle.qap_search.specs.Node.Thought.{IsThought}
use Rattle.qap_search.specs.declared.worker.stage.LastThought.{LastThought}
use Rattle.qap_search.proofs.WorkerLemmas.Thinkings.{anew_on, kept_on}
use Rattle.qap_search.proofs.worker.thinking.think_on.Goals as goal

pub returns-then-is_on-clause-thought : goal.returns-then-is_on-clause-thought
returns-then-is_on-clause-thought g c = kept_on c.args.rows.now c.args.last.now c.args.desk.now.node (c.is_on.ensures.0 c.if-is_on.true)

pub returns-clause-thought : goal.returns-clause-thought
returns-clause-thought g c =
    let x = c.args.desk.now.node in
    subst (λ (o : Option LastThought). IsThoughtOn c.args.rows.now x c.args.last.now o) (sym c.remember.ensures)
    (anew_on c.args.rows.now c.args.last.now x c.in_ok-thought.thought c.is_on.result c.requires.placement c.requires.size
    (subst (λ (I : Problem). IsThought I x c.in_ok-thought.thought) (c.instance.ensures.value ∙ c.reduce_into.ensures.same) c.in_ok-thought.ensures)
    c.if-is_on.false c.is_on.ensures.1)
