use Rattle.std.proofs.Common.{inl, inr}
use Rattle.std.proofs.lemmas.Result.{err_from_is_err_and}
use Rattle.serde_json.specs.View.{view}
use Rattle.plan_check.proofs.answer.answer_to_plan.Goals as goal

pub returns-in_err-answer : goal.returns-in_err-answer
returns-in_err-answer c =
    let r = err_from_is_err_and c.from_residual-in_err-answer.result c.from_residual-in_err-answer.ensures.1 in
    rw (r.1, r.2) (inr (view c.in_ok-value.value, c.in_ok-value.ensures, inr (inr (inl c.in_err-answer.ensures))))

pub returns-in_err-check_arrangement : goal.returns-in_err-check_arrangement
returns-in_err-check_arrangement c =
    let answer = c.in_ok-answer.answer in
    let r = err_from_is_err_and c.from_residual-in_err-check_arrangement.result c.from_residual-in_err-check_arrangement.ensures.1 in
    rw (r.1, r.2) (inr (view c.in_ok-value.value, c.in_ok-value.ensures, inr (inr (inr (answer.permutation, c.in_ok-answer.ensures.listed, c.in_err-check_arrangement.ensures)))))
