use Rattle.std.proofs.Common.{[], inr, refl}
use Rattle.std.proofs.lemmas.Result.{err_from_is_err_and}
use Rattle.qap_cert.proofs.Walks.{IsFaultFromTree-end}
use Rattle.qap_cert.proofs.acceptance.judge_to_end.Goals as goal

pub returns-in_err-read_end-clause-judged : goal.returns-in_err-read_end-clause-judged
returns-in_err-read_end-clause-judged c =
    let head = c.args.head.now in
    let judged = c.in_ok-judged.judged in
    let p = err_from_is_err_and c.from_residual-in_err-read_end.result c.from_residual-in_err-read_end.ensures.1 in
    rw (p.1, p.2) (inr (IsFaultFromTree-end head.grammar.version head.grammar.size [] head.line head.rest.now judged.rest.now judged.next
    _ c.in_err-read_end.field-0.0 refl c.in_ok-judged.ensures (c.in_err-read_end.ensures {u = tt})))
