use Rattle.std.proofs.Common.{◌≡◌, refl, ◌∙◌, subst, inl, inr}
use Rattle.std.proofs.lemmas.Result.{err_from_is_err_and}
use Rattle.qap_io.specs.Writing.{BreaksOff}
use Rattle.qap_verify.specs.Answering.{answer_line}
use Rattle.qap_verify.proofs.Streams.{without_memory}
use Rattle.qap_verify.proofs.verifying.verify_stream.Goals as goal

pub returns-in_err-verdict : goal.returns-in_err-verdict
returns-in_err-verdict g c =
    let p = err_from_is_err_and c.from_residual.result c.from_residual.ensures.1 in
    rw (p.1, p.2) (inl (c.in_err-verdict.ensures.verdict, refl))

pub returns-in_err-line : goal.returns-in_err-line
returns-in_err-line g c =
    let p = err_from_is_err_and c.from_residual-in_err-line.result c.from_residual-in_err-line.ensures.1 in
    rw p.1 (inl (without_memory _ c.in_ok-verdict.verdict p.0 c.in_ok-verdict.ensures.verdict p.2, refl))

pub returns-in_err-send : goal.returns-in_err-send
returns-in_err-send g c =
    let p = err_from_is_err_and c.from_residual-in_err-send.result c.from_residual-in_err-send.ensures.1 in
    let verdict = c.in_ok-verdict.verdict in
    let line : c.as_bytes.result.now ≡ answer_line verdict = c.as_bytes.ensures.value ∙ c.in_ok-line.ensures in
    rw p.1 (inr (p.2, verdict, c.in_ok-verdict.ensures.verdict, subst (BreaksOff g.W.Write.contents c.args.writer.now c.send.new.writer) line (c.in_err-send.ensures {u = tt})))
