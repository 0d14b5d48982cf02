use Rattle.std.proofs.Common.{◌≡◌, ◌∙◌, ◌++◌, ◌∷◌, [], ℤ, to_z, of_z, sym, ap, subst, arith}
use Rattle.std.proofs.lemmas.Int.{ints, to_z-of_z}
use Rattle.std.proofs.lemmas.Result.{err_from_is_err_and}
use Rattle.std.specs.Int.{w128}
use Rattle.qap_lines.specs.Bound.{IsBoundFor}
use Rattle.qap_lines.proofs.Numerals.{reads_wide}
use Rattle.qap_proof.specs.Text.{bound_text}
use Rattle.qap_proof.specs.TextFault.{IsBelow}
use Rattle.proof_check.specs.Walk.{ReadsBehind}
use Rattle.proof_check.proofs.HeadRefusals.{bound_found, bound_none, bound_refused, current_next, next_line}
use Rattle.proof_check.proofs.Heads.{ReadsBehind-line, bound_line}
use Rattle.proof_check.proofs.head.read_bound.Goals as goal

pub returns-in_ok-advance-in-Some-clause-read : goal.returns-in_ok-advance-in-Some-clause-read
returns-in_ok-advance-in-Some-clause-read g c =
    let before = c.args.cursor.now.line.items in
    let line = c.advance.new.cursor.line.items in
    let cost = c.args.cost in
    let bound = c.in-Some.bound in
    let a = c.args.reader.now in
    let b = c.advance.new.reader in
    let found = rw c.in-Some.is at c.in_ok-judge_bound.ensures.judged in
    let cost_is : to_z w128 (of_z w128 cost) ≡ cost = to_z-of_z w128 cost c.ranges.cost in
    let low = subst (λ (z : ℤ). IsBelow z bound) cost_is found.0 in
    let less = low.less in
    subst (λ (z : ℤ). IsBoundFor cost z × ReadsBehind before (bound_text cost z) line a b) (sym (reads_wide bound (omega (arith, low.limited)))) (
      record { limited = low.limited; at_most = omega (arith, ints, less) },
      ReadsBehind-line before (bound_text cost bound) line a b (ap (λ l. l ++ 10 ∷ []) (sym c.deref.ensures.value) ∙ bound_line cost bound c.deref.result.now low found.1) c.in_ok-advance-in-Some.ensures.read,
    )

pub returns-in_err-judge_bound-clause-passed : goal.returns-in_err-judge_bound-clause-passed
returns-in_err-judge_bound-clause-passed g c =
    let e = err_from_is_err_and c.from_residual.result c.from_residual.ensures.1 in
    let cost = c.args.cost in
    let cost_is : to_z w128 (of_z w128 cost) ≡ cost = to_z-of_z w128 cost c.ranges.cost in
    rw (e.1, e.2) (λ h text has.
    let refused = (c.in_err-judge_bound.ensures {u = tt}).judged in
    bound_refused cost h c.args.cursor.now.line.items c.deref.result.now _ text _ c.deref.ensures.value (λ z below named. refused.0 z (subst (λ (k : ℤ). IsBelow k z) (sym cost_is) below) named) refused.1 has)

pub returns-in_err-advance-in-Some-clause-passed : goal.returns-in_err-advance-in-Some-clause-passed
returns-in_err-advance-in-Some-clause-passed g c =
    let e = err_from_is_err_and c.from_residual-in_err-advance-in-Some.result c.from_residual-in_err-advance-in-Some.ensures.1 in
    rw (e.1, e.2) (λ h text has.
    let found = rw c.in-Some.is at c.in_ok-judge_bound.ensures.judged in
    let is = bound_found c.args.cost c.in-Some.bound h c.args.cursor.now.line.items c.deref.result.now _ text c.deref.ensures.value found.1 has in
    (c.in_err-advance-in-Some.ensures {u = tt}).refused _ _ (next_line 98 _ text has.next is.1))

pub returns-in-None-clause-passed : goal.returns-in-None-clause-passed
returns-in-None-clause-passed g c = λ h text has.
    let cost = c.args.cost in
    let none = rw c.in-None.is at c.in_ok-judge_bound.ensures.judged in
    let is = bound_none cost h c.args.cursor.now.line.items c.deref.result.now _ text c.deref.ensures.value none has in
    (to_z-of_z w128 cost c.ranges.cost ∙ is.0, is.1)

pub returns-in_ok-advance-in-Some-clause-passed : goal.returns-in_ok-advance-in-Some-clause-passed
returns-in_ok-advance-in-Some-clause-passed g c = λ h text has.
    let bound = c.in-Some.bound in
    let found = rw c.in-Some.is at c.in_ok-judge_bound.ensures.judged in
    let is = bound_found c.args.cost bound h c.args.cursor.now.line.items c.deref.result.now _ text c.deref.ensures.value found.1 has in
    let read = c.in_ok-advance-in-Some.ensures in
    let limited = found.0.limited in
    (reads_wide bound (omega (arith, limited)) ∙ is.0, current_next 98 _ _ text c.advance.new.cursor.line.items has.next is.1 read.read.consumed read.whole)
