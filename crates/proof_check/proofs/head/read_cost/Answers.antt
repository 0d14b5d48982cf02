use Rattle.std.proofs.Common.{◌≤◌, ◌^◌, ◌∷◌, [], ℤ, unsigned_abs, sym, subst, arith}
use Rattle.std.specs.Prelude.{codes}
use Rattle.qap_lines.specs.LineText.{line_text}
use Rattle.std.proofs.lemmas.Result.{err_from_is_err_and}
use Rattle.qap_lines.proofs.NumberLists.{AllLimited-one}
use Rattle.qap_proof.proofs.OneText.{no_line-cost}
use Rattle.proof_check.specs.Flow.{Passes}
use Rattle.proof_check.proofs.HeadRefusals.{begins_named, named_read}
use Rattle.qap_lines.proofs.Numerals.{reads_wide}
use Rattle.proof_check.proofs.Lines.{named_line}
use Rattle.proof_check.proofs.head.read_cost.Goals as goal

pub returns-clause-read : goal.returns-clause-read
returns-clause-read g c =
    let found = c.in_ok-cost.ensures.judged in
    let cost = c.in_ok-cost.cost in
    let a = c.args.reader.now in
    let b = c.advance.new.reader in
    subst (λ (z : ℤ). (unsigned_abs z ≤ 10 ^ 24) × Passes a b (line_text (codes "cost") (z ∷ []))) (sym (reads_wide cost (omega arith)))
    (found.0, named_line a b (codes "cost") _ _ (cost ∷ []) c.deref.ensures.value found.1 (AllLimited-one cost found.0) c.in_ok-advance.ensures.read)

pub returns-in_err-advance-clause-refused : goal.returns-in_err-advance-clause-refused
returns-in_err-advance-clause-refused g c =
    let e = err_from_is_err_and c.from_residual.result c.from_residual.ensures.1 in
    rw (e.1, e.2) (λ z limited rest known.
    (c.in_err-advance.ensures {u = tt}).refused _ rest (begins_named (codes "cost") (z ∷ []) _ rest no_line-cost (AllLimited-one z limited) known))

pub returns-in_err-cost-clause-refused : goal.returns-in_err-cost-clause-refused
returns-in_err-cost-clause-refused g c =
    let e = err_from_is_err_and c.from_residual-in_err-cost.result c.from_residual-in_err-cost.ensures.1 in
    let read = c.in_ok-advance.ensures in
    rw (e.1, e.2) (λ z limited rest known.
    absurd ((c.in_err-cost.ensures {u = tt}).judged z limited (named_read _ _ c.advance.new.cursor.line.items c.deref.result.now (codes "cost") (z ∷ []) rest read.read.consumed read.whole c.deref.ensures.value no_line-cost (AllLimited-one z limited) known)))
