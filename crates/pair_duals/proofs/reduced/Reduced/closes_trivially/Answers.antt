use Rattle.std.proofs.Common.{◌≡◌, ◌≤◌, length, map, arith, ap, ap₂, sym, subst, ◌∙◌, List, ℕ}
use Rattle.std.specs.Prelude.{ℤ, ◌+ℤ◌}
use Rattle.std.specs.Int.{w128}
use Rattle.std.proofs.lemmas.Int.{ints, to_z-of_z}
use Rattle.std.proofs.lemmas.List.{length-map}
use Rattle.qap_cost.specs.Range.{AllWithin}
use Rattle.pair_duals.specs.Range.{IsInReach}
use Rattle.pair_duals.specs.Reduced.{Form, count_of, AreLeast, AreLeastOfRows}
use Rattle.pair_duals.proofs.Products.{roomy}
use Rattle.pair_duals.proofs.Reaches.{entries-within, leasts-within, rows-within, sums_read, wider}
use Rattle.pair_duals.proofs.reduced.Reduced.closes_trivially.Goals as goal

pub least_of_columns-requires-clause-range : goal.least_of_columns-requires-clause-range
least_of_columns-requires-clause-range g c =
    let m = g.N.Number.limits in
    let value = g.N.Number.value in
    let enough = g.met.N.Number.enough in
    let R = c.args.self.now in
    let r : IsInReach m R = subst (IsInReach m) c.self.view_is c.self.invariant in
    let ee : map value c.self.inside.entries.items ≡ R.entries = ap (λ (F : Form). F.entries) c.self.view_is in
    let e1 : map value c.deref.result.now ≡ R.entries = ap (map value) c.deref.ensures.value ∙ ee in
    let e2 : map value c.deref-2.result.now ≡ R.entries = ap (map value) c.deref-2.ensures.value ∙ ee in
    let us = map value c.least_of_rows.new.u in
    let rows : AreLeastOfRows (count_of R) R.entries us = subst (λ (n : ℕ). AreLeastOfRows n R.entries us) c.requires.rows (subst (λ (es : List ℤ). AreLeastOfRows (length c.args.u.now) es us) e1 c.least_of_rows.ensures) in
    let near : AllWithin m.reach us = rows-within m R us enough r rows in
    let lu : length c.least_of_rows.new.u ≡ count_of R = sym (length-map c.least_of_rows.new.u value) ∙ rows.count in
    subst (AllWithin m.reach) (sym e2) (entries-within m R enough r)

pub least_of_columns-requires-clause-u_range : goal.least_of_columns-requires-clause-u_range
least_of_columns-requires-clause-u_range g c =
    let m = g.N.Number.limits in
    let value = g.N.Number.value in
    let enough = g.met.N.Number.enough in
    let R = c.args.self.now in
    let r : IsInReach m R = subst (IsInReach m) c.self.view_is c.self.invariant in
    let ee : map value c.self.inside.entries.items ≡ R.entries = ap (λ (F : Form). F.entries) c.self.view_is in
    let e1 : map value c.deref.result.now ≡ R.entries = ap (map value) c.deref.ensures.value ∙ ee in
    let e2 : map value c.deref-2.result.now ≡ R.entries = ap (map value) c.deref-2.ensures.value ∙ ee in
    let us = map value c.least_of_rows.new.u in
    let rows : AreLeastOfRows (count_of R) R.entries us = subst (λ (n : ℕ). AreLeastOfRows n R.entries us) c.requires.rows (subst (λ (es : List ℤ). AreLeastOfRows (length c.args.u.now) es us) e1 c.least_of_rows.ensures) in
    let near : AllWithin m.reach us = rows-within m R us enough r rows in
    let lu : length c.least_of_rows.new.u ≡ count_of R = sym (length-map c.least_of_rows.new.u value) ∙ rows.count in
    near

pub sum-requires-clause-range : goal.sum-requires-clause-range
sum-requires-clause-range g c =
    let m = g.N.Number.limits in
    let value = g.N.Number.value in
    let enough = g.met.N.Number.enough in
    let R = c.args.self.now in
    let r : IsInReach m R = subst (IsInReach m) c.self.view_is c.self.invariant in
    let ee : map value c.self.inside.entries.items ≡ R.entries = ap (λ (F : Form). F.entries) c.self.view_is in
    let e1 : map value c.deref.result.now ≡ R.entries = ap (map value) c.deref.ensures.value ∙ ee in
    let e2 : map value c.deref-2.result.now ≡ R.entries = ap (map value) c.deref-2.ensures.value ∙ ee in
    let us = map value c.least_of_rows.new.u in
    let rows : AreLeastOfRows (count_of R) R.entries us = subst (λ (n : ℕ). AreLeastOfRows n R.entries us) c.requires.rows (subst (λ (es : List ℤ). AreLeastOfRows (length c.args.u.now) es us) e1 c.least_of_rows.ensures) in
    let near : AllWithin m.reach us = rows-within m R us enough r rows in
    let lu : length c.least_of_rows.new.u ≡ count_of R = sym (length-map c.least_of_rows.new.u value) ∙ rows.count in
    wider m.reach m.sum us (omega (arith, (roomy m enough).reach)) near

pub sum-requires-2-clause-range : goal.sum-requires-2-clause-range
sum-requires-2-clause-range g c =
    let m = g.N.Number.limits in
    let value = g.N.Number.value in
    let enough = g.met.N.Number.enough in
    let R = c.args.self.now in
    let r : IsInReach m R = subst (IsInReach m) c.self.view_is c.self.invariant in
    let ee : map value c.self.inside.entries.items ≡ R.entries = ap (λ (F : Form). F.entries) c.self.view_is in
    let e1 : map value c.deref.result.now ≡ R.entries = ap (map value) c.deref.ensures.value ∙ ee in
    let e2 : map value c.deref-2.result.now ≡ R.entries = ap (map value) c.deref-2.ensures.value ∙ ee in
    let us = map value c.least_of_rows.new.u in
    let rows : AreLeastOfRows (count_of R) R.entries us = subst (λ (n : ℕ). AreLeastOfRows n R.entries us) c.requires.rows (subst (λ (es : List ℤ). AreLeastOfRows (length c.args.u.now) es us) e1 c.least_of_rows.ensures) in
    let near : AllWithin m.reach us = rows-within m R us enough r rows in
    let lu : length c.least_of_rows.new.u ≡ count_of R = sym (length-map c.least_of_rows.new.u value) ∙ rows.count in
    let vs = map value c.least_of_columns.new.v in
    let least : AreLeast (count_of R) R.entries us vs = subst (λ (n : ℕ). AreLeast n R.entries us vs) lu (subst (λ (es : List ℤ). AreLeast (length c.least_of_rows.new.u) es us vs) e2 c.least_of_columns.ensures) in
    leasts-within m R m.reach us vs enough r (omega arith) near rows.count least

pub overflow_add-result : goal.overflow_add-result
overflow_add-result g c =
    let m = g.N.Number.limits in
    let value = g.N.Number.value in
    let enough = g.met.N.Number.enough in
    let R = c.args.self.now in
    let r : IsInReach m R = subst (IsInReach m) c.self.view_is c.self.invariant in
    let ee : map value c.self.inside.entries.items ≡ R.entries = ap (λ (F : Form). F.entries) c.self.view_is in
    let e1 : map value c.deref.result.now ≡ R.entries = ap (map value) c.deref.ensures.value ∙ ee in
    let e2 : map value c.deref-2.result.now ≡ R.entries = ap (map value) c.deref-2.ensures.value ∙ ee in
    let us = map value c.least_of_rows.new.u in
    let rows : AreLeastOfRows (count_of R) R.entries us = subst (λ (n : ℕ). AreLeastOfRows n R.entries us) c.requires.rows (subst (λ (es : List ℤ). AreLeastOfRows (length c.args.u.now) es us) e1 c.least_of_rows.ensures) in
    let near : AllWithin m.reach us = rows-within m R us enough r rows in
    let lu : length c.least_of_rows.new.u ≡ count_of R = sym (length-map c.least_of_rows.new.u value) ∙ rows.count in
    let vs = map value c.least_of_columns.new.v in
    let least : AreLeast (count_of R) R.entries us vs = subst (λ (n : ℕ). AreLeast n R.entries us vs) lu (subst (λ (es : List ℤ). AreLeast (length c.least_of_rows.new.u) es us vs) e2 c.least_of_columns.ensures) in
    let lv : length c.least_of_columns.new.v ≡ count_of R = sym (length-map c.least_of_columns.new.v value) ∙ least.count in
    let few : count_of R ≤ 256 = omega (arith, r.deep, enough.small) in
    let ku : length c.least_of_rows.new.u ≤ 256 = omega (arith, few, lu) in
    let kv : length c.least_of_columns.new.v ≤ 256 = omega (arith, few, lv) in
    let read = sums_read m R c.self.inside.value c.sum.result c.sum-2.result (length c.least_of_rows.new.u) (length c.least_of_columns.new.v) enough r (ap (λ (F : Form). F.value) c.self.view_is) ku kv c.sum.ensures.bounded c.sum-2.ensures.bounded in
    read.0

pub overflow_add-result-2 : goal.overflow_add-result-2
overflow_add-result-2 g c =
    let m = g.N.Number.limits in
    let value = g.N.Number.value in
    let enough = g.met.N.Number.enough in
    let R = c.args.self.now in
    let r : IsInReach m R = subst (IsInReach m) c.self.view_is c.self.invariant in
    let ee : map value c.self.inside.entries.items ≡ R.entries = ap (λ (F : Form). F.entries) c.self.view_is in
    let e1 : map value c.deref.result.now ≡ R.entries = ap (map value) c.deref.ensures.value ∙ ee in
    let e2 : map value c.deref-2.result.now ≡ R.entries = ap (map value) c.deref-2.ensures.value ∙ ee in
    let us = map value c.least_of_rows.new.u in
    let rows : AreLeastOfRows (count_of R) R.entries us = subst (λ (n : ℕ). AreLeastOfRows n R.entries us) c.requires.rows (subst (λ (es : List ℤ). AreLeastOfRows (length c.args.u.now) es us) e1 c.least_of_rows.ensures) in
    let near : AllWithin m.reach us = rows-within m R us enough r rows in
    let lu : length c.least_of_rows.new.u ≡ count_of R = sym (length-map c.least_of_rows.new.u value) ∙ rows.count in
    let vs = map value c.least_of_columns.new.v in
    let least : AreLeast (count_of R) R.entries us vs = subst (λ (n : ℕ). AreLeast n R.entries us vs) lu (subst (λ (es : List ℤ). AreLeast (length c.least_of_rows.new.u) es us vs) e2 c.least_of_columns.ensures) in
    let lv : length c.least_of_columns.new.v ≡ count_of R = sym (length-map c.least_of_columns.new.v value) ∙ least.count in
    let few : count_of R ≤ 256 = omega (arith, r.deep, enough.small) in
    let ku : length c.least_of_rows.new.u ≤ 256 = omega (arith, few, lu) in
    let kv : length c.least_of_columns.new.v ≤ 256 = omega (arith, few, lv) in
    let read = sums_read m R c.self.inside.value c.sum.result c.sum-2.result (length c.least_of_rows.new.u) (length c.least_of_columns.new.v) enough r (ap (λ (F : Form). F.value) c.self.view_is) ku kv c.sum.ensures.bounded c.sum-2.ensures.bounded in
    read.1

pub returns-clause-closes : goal.returns-clause-closes
returns-clause-closes g c =
    let m = g.N.Number.limits in
    let value = g.N.Number.value in
    let enough = g.met.N.Number.enough in
    let R = c.args.self.now in
    let r : IsInReach m R = subst (IsInReach m) c.self.view_is c.self.invariant in
    let ee : map value c.self.inside.entries.items ≡ R.entries = ap (λ (F : Form). F.entries) c.self.view_is in
    let e1 : map value c.deref.result.now ≡ R.entries = ap (map value) c.deref.ensures.value ∙ ee in
    let e2 : map value c.deref-2.result.now ≡ R.entries = ap (map value) c.deref-2.ensures.value ∙ ee in
    let us = map value c.least_of_rows.new.u in
    let rows : AreLeastOfRows (count_of R) R.entries us = subst (λ (n : ℕ). AreLeastOfRows n R.entries us) c.requires.rows (subst (λ (es : List ℤ). AreLeastOfRows (length c.args.u.now) es us) e1 c.least_of_rows.ensures) in
    let near : AllWithin m.reach us = rows-within m R us enough r rows in
    let lu : length c.least_of_rows.new.u ≡ count_of R = sym (length-map c.least_of_rows.new.u value) ∙ rows.count in
    let vs = map value c.least_of_columns.new.v in
    let least : AreLeast (count_of R) R.entries us vs = subst (λ (n : ℕ). AreLeast n R.entries us vs) lu (subst (λ (es : List ℤ). AreLeast (length c.least_of_rows.new.u) es us vs) e2 c.least_of_columns.ensures) in
    let lv : length c.least_of_columns.new.v ≡ count_of R = sym (length-map c.least_of_columns.new.v value) ∙ least.count in
    let few : count_of R ≤ 256 = omega (arith, r.deep, enough.small) in
    let ku : length c.least_of_rows.new.u ≤ 256 = omega (arith, few, lu) in
    let kv : length c.least_of_columns.new.v ≤ 256 = omega (arith, few, lv) in
    let read = sums_read m R c.self.inside.value c.sum.result c.sum-2.result (length c.least_of_rows.new.u) (length c.least_of_columns.new.v) enough r (ap (λ (F : Form). F.value) c.self.view_is) ku kv c.sum.ensures.bounded c.sum-2.ensures.bounded in
    let is = read.2 ∙ ap₂ (λ (a b : ℤ). R.value +ℤ (a +ℤ b)) c.sum.ensures.value c.sum-2.ensures.value in
    let t = to_z-of_z w128 c.args.threshold c.ranges.threshold in
    rw (is, t) (λ h. omega (arith, ints, h), λ h. grind (arith, ints))
