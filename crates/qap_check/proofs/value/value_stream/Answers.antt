use Rattle.std.proofs.Common.{refl, inl}
use Rattle.std.proofs.lemmas.Result.{err_from_is_err_and}
use Rattle.qap_check.specs.declared.source.Separators.TheVariants.{Kept}
use Rattle.qap_check.proofs.Comes.{wants_memory}
use Rattle.qap_check.proofs.value.value_stream.Goals as goal

pub returns-in_err-valuation : goal.returns-in_err-valuation
returns-in_err-valuation g c =
    let p = err_from_is_err_and c.from_residual.result c.from_residual.ensures.1 in
    rw (p.1, p.2) (inl (c.in_err-valuation.ensures {u = tt}, refl))

pub returns-in_err-lines : goal.returns-in_err-lines
returns-in_err-lines g c =
    let p = err_from_is_err_and c.from_residual-in_err-lines.result c.from_residual-in_err-lines.ensures.1 in
    let come = c.in_ok-valuation.ensures in
    rw p.1 (inl (inl (wants_memory _ Kept come.instance come.other p.0 come.texts p.2), refl))
