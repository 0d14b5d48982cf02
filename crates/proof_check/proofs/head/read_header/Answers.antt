use Rattle.std.proofs.Common.{pos, ◌∷◌, [], arith}
use Rattle.std.specs.Prelude.{codes}
use Rattle.std.proofs.lemmas.Result.{err_from_is_err_and}
use Rattle.qap_lines.proofs.NumberLists.{AllLimited-one}
use Rattle.qap_proof.proofs.OneText.{no_line-version}
use Rattle.proof_check.proofs.HeadRefusals.{begins_named, named_read}
use Rattle.proof_check.proofs.Lines.{named_line}
use Rattle.proof_check.proofs.head.read_header.Goals as goal

pub returns-clause-read : goal.returns-clause-read
returns-clause-read g c =
    named_line _ _ (codes "qapproof") _ _ (pos 2 ∷ []) c.deref.ensures.value c.in_ok-judge_header.ensures.judged (AllLimited-one (pos 2) (omega arith)) c.in_ok-advance.ensures.read

pub returns-in_err-advance-clause-refused : goal.returns-in_err-advance-clause-refused
returns-in_err-advance-clause-refused g c =
    let e = err_from_is_err_and c.from_residual.result c.from_residual.ensures.1 in
    rw (e.1, e.2) (λ rest known.
    (c.in_err-advance.ensures {u = tt}).refused _ rest (begins_named (codes "qapproof") (pos 2 ∷ []) _ rest no_line-version (AllLimited-one (pos 2) (omega arith)) known))

pub returns-in_err-judge_header-clause-refused : goal.returns-in_err-judge_header-clause-refused
returns-in_err-judge_header-clause-refused g c =
    let e = err_from_is_err_and c.from_residual-in_err-judge_header.result c.from_residual-in_err-judge_header.ensures.1 in
    let read = c.in_ok-advance.ensures in
    rw (e.1, e.2) (λ rest known.
    absurd ((c.in_err-judge_header.ensures {u = tt}).judged (named_read _ _ c.advance.new.cursor.line.items c.deref.result.now (codes "qapproof") (pos 2 ∷ []) rest read.read.consumed read.whole c.deref.ensures.value no_line-version (AllLimited-one (pos 2) (omega arith)) known)))
