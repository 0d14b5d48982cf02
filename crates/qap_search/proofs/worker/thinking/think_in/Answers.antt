use Rattle.std.proofs.Common.{ℕ, ap, ◌∙◌, refl, subst}
use Rattle.qap_cost.specs.Instance.{Problem}
use Rattle.qap_search.specs.Worker.Considering.{HasNoNode}
use Rattle.qap_search.proofs.worker.thinking.think_in.Goals as goal

pub returns-then-not-branch-clause-considers : goal.returns-then-not-branch-clause-considers
returns-then-not-branch-clause-considers g c =
    let size = c.size-size.ensures.value ∙ ap (λ (I : Problem). I.size) c.instance.ensures.value in
    let none = rw c.if-not-branch.true at c.in_ok-read_taken.ensures in
    rw c.in-Taken.is (subst (λ (n : ℕ). HasNoNode n c.in-Taken.id c.in-Taken.txn) size none, refl)
