use Rattle.std.proofs.Common.{◌++◌, ◌∷◌, [], List, ℕ, sym, ◌∙◌, subst}
use Rattle.std.specs.Prelude.{codes}
use Rattle.std.proofs.lemmas.Result.{err_from_is_err_and}
use Rattle.proof_check.specs.Flow.{Passes}
use Rattle.proof_check.proofs.Accepting.{end_begins}
use Rattle.proof_check.proofs.Passing.{line_known}
use Rattle.proof_check.proofs.acceptance.read_end.Goals as goal

pub returns-clause-read : goal.returns-clause-read
returns-clause-read g c =
    let line = c.advance.new.cursor.line.items in
    let a = c.args.reader.now in
    let b = c.advance.new.reader in
    let line_is = sym c.deref.ensures.value ∙ c.in_ok-check_end.ensures.judged in
    (b, subst (λ (l : List ℕ). Passes a b (l ++ 10 ∷ [])) line_is c.in_ok-advance.ensures.read, c.in_ok-end.ensures.end, c.in_ok-end.ensures.passed)

pub returns-in_err-advance-clause-refused : goal.returns-in_err-advance-clause-refused
returns-in_err-advance-clause-refused g c =
    let e = err_from_is_err_and c.from_residual.result c.from_residual.ensures.1 in
    rw (e.1, e.2) (λ known. (c.in_err-advance.ensures {u = tt}).refused _ _ (end_begins _ known))

pub returns-in_err-check_end-clause-refused : goal.returns-in_err-check_end-clause-refused
returns-in_err-check_end-clause-refused g c =
    let e = err_from_is_err_and c.from_residual-in_err-check_end.result c.from_residual-in_err-check_end.ensures.1 in
    let read = c.in_ok-advance.ensures in
    rw (e.1, e.2) (λ known.
    let now = line_known _ _ c.advance.new.cursor.line.items (codes "end") [] read.read.consumed read.whole (end_begins _ known) in
    absurd ((c.in_err-check_end.ensures {u = tt}).judged (c.deref.ensures.value ∙ now.0)))

pub returns-in_err-end-clause-refused : goal.returns-in_err-end-clause-refused
returns-in_err-end-clause-refused g c =
    let e = err_from_is_err_and c.from_residual-in_err-end.result c.from_residual-in_err-end.ensures.1 in
    let read = c.in_ok-advance.ensures in
    rw (e.1, e.2) (λ known.
    let now = line_known _ _ c.advance.new.cursor.line.items (codes "end") [] read.read.consumed read.whole (end_begins _ known) in
    (c.in_err-end.ensures {u = tt}).refused now.1)
