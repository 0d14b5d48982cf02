use Rattle.std.proofs.Common.{◌<◌, ◌∷◌, ◌∙◌, ap, arith}
use Rattle.std.proofs.lemmas.Result.{err_from_is_err_and}
use Rattle.proof_check.proofs.Refusals.{blank_row}
use Rattle.proof_check.proofs.rows.read_row.Goals as goal

pub returns-in_err-row-clause-refused : goal.returns-in_err-row-clause-refused
returns-in_err-row-clause-refused c =
    let p = err_from_is_err_and c.from_residual-in_err-row.result c.from_residual-in_err-row.ensures.1 in
    rw (p.1, p.2) (λ row limited is.
    let some : 0 < c.args.width = omega (arith, c.if-width-eq0.false) in
    (c.in_err-row.ensures {u = tt}).refused row limited (c.deref.ensures.value ∙ c.in_ok-spaced.ensures ∙ ap (λ l. 32 ∷ l) is ∙ blank_row c.args.width row some limited))
