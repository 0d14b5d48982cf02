use Rattle.std.specs.Prelude.{codes}
use Rattle.qap_io.specs.Number.{from_one}
use Rattle.std.proofs.lemmas.Result.{err_from_is_err_and}
use Rattle.qap_lines.proofs.Locations.{AllLimited-permutation}
use Rattle.qap_proof.proofs.OneText.{no_line-perm}
use Rattle.proof_check.proofs.HeadRefusals.{begins_named, named_read}
use Rattle.proof_check.proofs.Lines.{named_line}
use Rattle.proof_check.proofs.head.read_permutation.Goals as goal

pub returns-clause-read : goal.returns-clause-read
returns-clause-read g c =
    let found = c.in_ok-perm.ensures.found in
    let p = c.in_ok-perm.perm in
    (found.0, found.1, named_line _ _ (codes "perm") _ _ (from_one p) c.deref.ensures.value found.2 (AllLimited-permutation p found.0) c.in_ok-advance.ensures.read)

pub returns-in_err-advance-clause-refused : goal.returns-in_err-advance-clause-refused
returns-in_err-advance-clause-refused g c =
    let e = err_from_is_err_and c.from_residual.result c.from_residual.ensures.1 in
    rw (e.1, e.2) (λ p perm long rest known.
    (c.in_err-advance.ensures {u = tt}).refused _ rest (begins_named (codes "perm") (from_one p) _ rest no_line-perm (AllLimited-permutation p perm) known))

pub returns-in_err-perm-clause-refused : goal.returns-in_err-perm-clause-refused
returns-in_err-perm-clause-refused g c =
    let e = err_from_is_err_and c.from_residual-in_err-perm.result c.from_residual-in_err-perm.ensures.1 in
    let read = c.in_ok-advance.ensures in
    rw (e.1, e.2) (λ p perm long rest known.
    (c.in_err-perm.ensures {u = tt}).refused p perm long (named_read _ _ c.advance.new.cursor.line.items c.deref.result.now (codes "perm") (from_one p) rest read.read.consumed read.whole c.deref.ensures.value no_line-perm (AllLimited-permutation p perm) known))
