use Rattle.std.proofs.Common.{◌∙◌}
use Rattle.std.proofs.lemmas.Result.{err_from_is_err_and}
use Rattle.proof_check.proofs.HeadRefusals.{current_next, next_line, root_found, root_none, root_refused}
use Rattle.proof_check.proofs.head.read_root.Goals as goal

pub returns-in_err-judge_root-clause-passed : goal.returns-in_err-judge_root-clause-passed
returns-in_err-judge_root-clause-passed g c =
    let e = err_from_is_err_and c.from_residual.result c.from_residual.ensures.1 in
    rw (e.1, e.2) (λ y text h.
    root_refused c.args.n y c.args.cursor.now.line.items c.deref.result.now _ text _ c.deref.ensures.value (c.in_err-judge_root.ensures {u = tt}).other (c.in_err-judge_root.ensures {u = tt}).refused h)

pub returns-in_err-advance-in-Some-clause-passed : goal.returns-in_err-advance-in-Some-clause-passed
returns-in_err-advance-in-Some-clause-passed g c =
    let e = err_from_is_err_and c.from_residual-in_err-advance-in-Some.result c.from_residual-in_err-advance-in-Some.ensures.1 in
    rw (e.1, e.2) (λ y text h.
    let found = rw c.in-Some.is at c.in_ok-judge_root.ensures.found in
    let is = root_found c.args.n c.in-Some.root y c.args.cursor.now.line.items c.deref.result.now _ text c.deref.ensures.value found.0 found.1 h in
    (c.in_err-advance-in-Some.ensures {u = tt}).refused _ _ (next_line 110 _ text h.next is.1))

pub returns-in_ok-root-in-None-clause-passed : goal.returns-in_ok-root-in-None-clause-passed
returns-in_ok-root-in-None-clause-passed g c = λ y text h.
    let none = rw c.in-None.is at c.in_ok-judge_root.ensures.none in
    let is = root_none c.args.n y c.args.cursor.now.line.items c.deref.result.now _ text c.deref.ensures.value none h in
    (c.in_ok-root-in-None.ensures.value ∙ is.0, is.1)

pub returns-in_ok-advance-in-Some-clause-passed : goal.returns-in_ok-advance-in-Some-clause-passed
returns-in_ok-advance-in-Some-clause-passed g c = λ y text h.
    let found = rw c.in-Some.is at c.in_ok-judge_root.ensures.found in
    let is = root_found c.args.n c.in-Some.root y c.args.cursor.now.line.items c.deref.result.now _ text c.deref.ensures.value found.0 found.1 h in
    let read = c.in_ok-advance-in-Some.ensures in
    (is.0, current_next 110 _ _ text c.advance.new.cursor.line.items h.next is.1 read.read.consumed read.whole)
