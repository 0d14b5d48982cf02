use Rattle.std.proofs.Common.{◌≡◌, ◌⊎◌, List, ℕ, inl, subst}
use Rattle.std.specs.Prelude.{MatchResult}
use Rattle.std.proofs.lemmas.Result.{err_from_is_err_and}
use Rattle.qap_check.specs.Refusal.{IsNoSolution}
use Rattle.qap_check.specs.Valuation.{AnswersSolution}
use Rattle.qap_check.specs.declared.refusal.CheckError.TheVariants.{OutOfMemory}
use Rattle.qap_check.specs.declared.source.Separators.TheVariants.{Kept}
use Rattle.qap_check.proofs.Comes.{come_to}
use Rattle.qap_check.proofs.value.judged.Goals as goal

pub returns-in_err-texts : goal.returns-in_err-texts
returns-in_err-texts g c =
    let p = err_from_is_err_and c.from_residual.result c.from_residual.ensures.1 in
    rw (p.1, p.2) (inl (c.in_err-texts.ensures {u = tt}))

pub returns : goal.returns
returns g c =
    let I = c.in_ok-texts.texts.instance in
    let answered = subst (λ (other : List ℕ). MatchResult c.answer.result (AnswersSolution I other) (λ e. (e ≡ OutOfMemory) ⊎ IsNoSolution I other e)) c.as_slice.ensures c.answer.ensures in
    come_to _ Kept I c.in_ok-texts.texts.other AnswersSolution IsNoSolution c.answer.result c.in_ok-texts.ensures answered
