use Rattle.std.proofs.Common.{pos, ◌∷◌, [], arith}
use Rattle.std.specs.Prelude.{codes}
use Rattle.std.proofs.lemmas.Result.{err_from_is_err_and}
use Rattle.qap_lines.proofs.NumberLists.{AllLimited-one}
use Rattle.qap_proof.proofs.OneText.{no_line-size}
use Rattle.proof_check.proofs.HeadRefusals.{begins_named, named_read}
use Rattle.proof_check.proofs.Lines.{named_line}
use Rattle.proof_check.proofs.head.read_size.Goals as goal

pub returns-clause-read : goal.returns-clause-read
returns-clause-read g c =
    let size = c.in_ok-size.ensures.judged in
    let n = c.in_ok-size.size in
    (size.0, size.1, named_line _ _ (codes "n") _ _ (pos n ∷ []) c.deref.ensures.value size.2 (AllLimited-one (pos n) (omega (arith, size.1))) c.in_ok-advance.ensures.read)

pub returns-in_err-advance-clause-refused : goal.returns-in_err-advance-clause-refused
returns-in_err-advance-clause-refused g c =
    let e = err_from_is_err_and c.from_residual.result c.from_residual.ensures.1 in
    rw (e.1, e.2) (λ n some small rest known.
    (c.in_err-advance.ensures {u = tt}).refused _ rest (begins_named (codes "n") (pos n ∷ []) _ rest no_line-size (AllLimited-one (pos n) (omega (arith, small))) known))

pub returns-in_err-size-clause-refused : goal.returns-in_err-size-clause-refused
returns-in_err-size-clause-refused g c =
    let e = err_from_is_err_and c.from_residual-in_err-size.result c.from_residual-in_err-size.ensures.1 in
    let read = c.in_ok-advance.ensures in
    rw (e.1, e.2) (λ n some small rest known.
    absurd ((c.in_err-size.ensures {u = tt}).judged n some small (named_read _ _ c.advance.new.cursor.line.items c.deref.result.now (codes "n") (pos n ∷ []) rest read.read.consumed read.whole c.deref.ensures.value no_line-size (AllLimited-one (pos n) (omega (arith, small))) known)))
