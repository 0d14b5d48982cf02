use Rattle.std.proofs.Common.{◌≡◌, ◌^◌, List, ℤ, length, map, refl, subst, sym, ◌∙◌, ap, ap₂, arith}
use Rattle.std.specs.Prelude.{◌+ℤ◌}
use Rattle.std.proofs.lemmas.Int.{ints}
use Rattle.qap_cost.specs.Matrix.{total}
use Rattle.qap_cost.specs.Range.{AllWithin}
use Rattle.pair_duals.specs.Reduced.{AreLeast, AreLeastOfRows, count_of}
use Rattle.proof_check.specs.Judge.{IsValueWithMinima}
use Rattle.proof_check.proofs.Minima.{columns_within, drawn_value, few_rows, map_same, rows_within, sums_are, value_within, with_minima}
use Rattle.proof_check.proofs.leaf.with_minima.Goals as goal

pub sum-requires-clause-few : goal.sum-requires-clause-few
sum-requires-clause-few c =
    omega (arith, few_rows c.args.form.now c.value-value.ensures.reach, (subst (AreLeastOfRows (count_of c.args.form.now) c.args.form.now.entries) (map_same _ c.closes_trivially.new.u (λ x. refl)) c.closes_trivially.ensures.rows).count)

pub sum-requires-clause-range : goal.sum-requires-clause-range
sum-requires-clause-range c = subst (AllWithin (10 ^ 30)) (map_same _ c.closes_trivially.new.u (λ x. refl)) (rows_within c.args.form.now _ c.value-value.ensures.reach c.closes_trivially.ensures.rows)

pub sum-requires-2-clause-few : goal.sum-requires-2-clause-few
sum-requires-2-clause-few c =
    omega (arith, few_rows c.args.form.now c.value-value.ensures.reach, ap (λ (l : List ℤ). length l) (map_same _ c.closes_trivially.new.v (λ x. refl)), c.closes_trivially.ensures.columns.count)

pub sum-requires-2-clause-range : goal.sum-requires-2-clause-range
sum-requires-2-clause-range c =
    subst (AllWithin (10 ^ 30)) (map_same _ c.closes_trivially.new.v (λ x. refl)) (columns_within c.args.form.now _ _ c.value-value.ensures.reach c.closes_trivially.ensures.rows c.closes_trivially.ensures.columns)

pub returns-clause-value : goal.returns-clause-value
returns-clause-value c =
    let R = c.args.form.now in
    let u = c.closes_trivially.new.u in
    let v = c.closes_trivially.new.v in
    let found = c.closes_trivially.ensures in
    let reach = c.value-value.ensures.reach in
    let us : map (λ (x : ℤ). x) u ≡ u = map_same (λ x. x) u (λ x. refl) in
    let vs : map (λ (x : ℤ). x) v ≡ v = map_same (λ x. x) v (λ x. refl) in
    let rows : AreLeastOfRows (count_of R) R.entries u = subst (AreLeastOfRows (count_of R) R.entries) us found.rows in
    let half = subst (λ (l : List ℤ). AreLeast (count_of R) R.entries l (map (λ (x : ℤ). x) v)) us found.columns in
    let columns : AreLeast (count_of R) R.entries u v = subst (AreLeast (count_of R) R.entries u) vs half in
    let above = found.closes.0 c.if-not-closes_trivially.false in
    let value_read = drawn_value R c.value-value.result c.value-value.ensures.value reach in
    let totals = ap₂ (λ (y z : List ℤ). total y +ℤ total z) us vs in
    let is = (sums_are R c.value-value.result c.sum.result c.sum-2.result reach c.value-value.ensures.value c.sum.ensures.bounded c.sum-2.ensures.bounded).2 ∙ ap₂ (λ (y z : ℤ). R.value +ℤ (y +ℤ z)) c.sum.ensures.value c.sum-2.ensures.value in
    subst (IsValueWithMinima R) (sym is) (with_minima R u v rows columns (omega (arith, ints, above, value_read, totals)))

pub returns-clause-small : goal.returns-clause-small
returns-clause-small c =
    let R = c.args.form.now in
    let reach = c.value-value.ensures.reach in
    let is = (sums_are R c.value-value.result c.sum.result c.sum-2.result reach c.value-value.ensures.value c.sum.ensures.bounded c.sum-2.ensures.bounded).2 in
    let small = value_within R reach in
    let near = c.sum.ensures.bounded in
    let far = c.sum-2.ensures.bounded in
    omega (arith, ints, is, small, near, far)
