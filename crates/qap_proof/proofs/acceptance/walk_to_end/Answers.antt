use Rattle.std.proofs.Common.{inr}
use Rattle.std.proofs.lemmas.Result.{err_from_is_err_and}
use Rattle.qap_proof.proofs.Walks.{IsFaultFromTree-end}
use Rattle.qap_proof.proofs.acceptance.walk_to_end.Goals as goal

pub returns-in_err-read_end-clause-judged : goal.returns-in_err-read_end-clause-judged
returns-in_err-read_end-clause-judged c =
    let head = c.args.head.now in
    let walked = c.in_ok-walked.walked in
    let p = err_from_is_err_and c.from_residual-in_err-read_end.result c.from_residual-in_err-read_end.ensures.1 in
    rw (p.1, p.2) (inr (IsFaultFromTree-end head.root head.line head.rest.now walked.rest.now walked.next
    _ c.in_err-read_end.field-0.0 c.in_ok-walked.ensures (c.in_err-read_end.ensures {u = tt})))
