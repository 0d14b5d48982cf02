use Rattle.std.proofs.lemmas.Result.{err_from_is_err_and}
use Rattle.qap_search.proofs.certificate.assembling.assemble_finished.Goals as goal

pub returns-in_err-pieces : goal.returns-in_err-pieces
returns-in_err-pieces c =
    let p = err_from_is_err_and c.from_residual.result c.from_residual.ensures.1 in
    rw (p.1, p.2) (c.in_err-pieces.ensures {u = tt} c.args.n)
