use Rattle.std.proofs.Common.{◌≡◌, ℕ, ◌+◌, ◌-◌, ◌*◌, List, ℤ, sym, ◌∙◌, ap, subst, arith}
use Rattle.std.specs.Prelude.{All}
use Rattle.std.proofs.lemmas.Result.{err_from_is_err_and}
use Rattle.proof_tree.specs.Shape.{AreLimited}
use Rattle.proof_check.specs.Rows.{HasRows, lists_of}
use Rattle.proof_check.proofs.RowLists.{HasPassed, HasPassed-all, HasPassed-more, HasPassed-none, HasRows-none, HasRows-more, next_row, row_refused}
use Rattle.proof_check.proofs.rows.read_rows.Goals as goal

pub loop-init : goal.loop-init
loop-init g c =
    let a = c.args.reader.now in
    let width = 2 * c.saturating_sub-width.result in
    subst (λ (rows : List (List ℤ)). HasRows width 0 rows a a × HasPassed c.args.m 0 rows a.left a.left) (sym (ap lists_of c.new-rows.ensures.items)) (HasRows-none width a, HasPassed-none c.args.m a.left)

pub loop-preserved : goal.loop-preserved
loop-preserved g c =
    let a = c.args.reader.now in
    let b = c.loop.reader in
    let d = c.advance.new.reader in
    let m = c.args.m in
    let width = 2 * c.saturating_sub-width.result in
    let row = c.in_ok-row.ensures.found in
    let read = c.in_ok-advance.ensures in
    let is = sym c.deref.ensures.value ∙ row.1 in
    let old = lists_of c.loop.rows.items in
    let width_is : c.saturating_sub-width.result ≡ m - 1 = c.saturating_sub-width.ensures in
    let limited = subst (λ (w : ℕ). AreLimited (2 * w) c.in_ok-row.row.items) width_is row.0 in
    subst (λ (rows : List (List ℤ)). HasRows width (c.loop.counter + 1) rows a d × HasPassed m (c.loop.counter + 1) rows a.left d.left) (sym c.in_ok-push_row.ensures) (
      HasRows-more width c.loop.counter old c.in_ok-row.row.items c.advance.new.cursor.line.items a b d c.loop.invariant.0 read.read row.0 is,
      HasPassed-more m c.loop.counter old c.in_ok-row.row.items c.advance.new.cursor.line.items a.left b.left d.left c.loop-test.true c.loop.invariant.1 read.read.consumed read.whole limited is,
    )

pub returns-clause-read : goal.returns-clause-read
returns-clause-read g c =
    let h = c.loop.invariant.0 in
    let counted = h.counted in
    record {
      count = omega (arith, counted, c.loop-test.false, c.loop.auto.counter-end);
      each = subst (λ (w : ℕ). All (AreLimited (2 * w)) (lists_of c.loop.rows.items)) c.saturating_sub-width.ensures h.each;
      consumed = h.consumed;
    }

pub returns-clause-passed : goal.returns-clause-passed
returns-clause-passed g c = λ wanted rest begins.
    HasPassed-all c.args.m c.loop.counter (lists_of c.loop.rows.items) wanted rest c.args.reader.now.left c.loop.reader.left (omega (arith, c.loop-test.false, c.loop.auto.counter-end)) c.loop.invariant.1 begins

pub returns-in_err-advance-clause-passed : goal.returns-in_err-advance-clause-passed
returns-in_err-advance-clause-passed g c =
    let p = err_from_is_err_and c.from_residual.result c.from_residual.ensures.1 in
    rw (p.1, p.2) (λ wanted rest begins.
    (c.in_err-advance.ensures {u = tt}).refused _ _ (next_row c.args.m c.loop.counter (lists_of c.loop.rows.items) wanted rest c.args.reader.now.left c.loop.reader.left c.loop-test.true c.loop.invariant.1 begins))

pub returns-in_err-row-clause-passed : goal.returns-in_err-row-clause-passed
returns-in_err-row-clause-passed g c =
    let p = err_from_is_err_and c.from_residual-in_err-row.result c.from_residual-in_err-row.ensures.1 in
    let read = c.in_ok-advance.ensures in
    let width_is : c.saturating_sub-width.result ≡ c.args.m - 1 = c.saturating_sub-width.ensures in
    rw (p.1, p.2) (λ wanted rest begins.
    row_refused c.args.m c.loop.counter (lists_of c.loop.rows.items) wanted c.advance.new.cursor.line.items c.deref.result.now rest _ c.args.reader.now.left c.loop.reader.left c.advance.new.reader.left c.loop-test.true c.loop.invariant.1 read.read.consumed read.whole c.deref.ensures.value
    (λ row limited is. (c.in_err-row.ensures {u = tt}).refused row (subst (λ (w : ℕ). AreLimited (2 * w) row) (sym width_is) limited) is) begins)
