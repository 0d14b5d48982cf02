use Rattle.std.proofs.Common.{◌≡◌, ◌∙◌, ap, inr, subst}
use Rattle.std.proofs.lemmas.Result.{err_from_is_err_and}
use Rattle.serde_json.specs.View.{view}
use Rattle.qap_cost.specs.Placement.{Placement, root_of}
use Rattle.plan_check.specs.Refusal.{IsUnstated}
use Rattle.plan_check.proofs.answer.answer_to_instance.Goals as goal

pub returns-in_err-answer : goal.returns-in_err-answer
returns-in_err-answer c =
    let I = c.args.instance.now in
    let d = view c.in_ok-value.value in
    let root : c.in_ok-root.root ≡ root_of I.size = c.in_ok-root.ensures.value ∙ ap root_of c.size.ensures.value in
    let r = err_from_is_err_and c.from_residual-in_err-answer.result c.from_residual-in_err-answer.ensures.1 in
    rw (r.1, r.2) (inr (d, c.in_ok-value.ensures, inr (inr (inr (subst (λ (x : Placement). IsUnstated I x 0 d c.in_err-answer.field-0.0) root c.in_err-answer.ensures)))))
