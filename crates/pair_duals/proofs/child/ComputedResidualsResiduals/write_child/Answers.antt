use Rattle.std.proofs.Common.{◌≡◌, ◌^◌, ◌<◌, ℕ, length, get_or, map, arith, ap, subst, ◌∙◌, List}
use Rattle.pair_duals.specs.DualRow.{IsDualRow}
use Rattle.pair_duals.specs.Shared.{beta_along, entry_from, entry_to}
use Rattle.pair_duals.proofs.Children.{columns_left, column_left-within}
use Rattle.pair_duals.proofs.child.ComputedResidualsResiduals.write_child.Goals as goal

pub share_columns-requires-clause-columns : goal.share_columns-requires-clause-columns
share_columns-requires-clause-columns g c =
    let I = c.args.self.now.instance.now in
    let D = c.args.self.now.duals.now in
    let R = c.args.parent.now in
    let columns = c.args.columns.now in
    let hg : c.args.g < length R.columns = omega (arith, c.requires.column, c.rows.ensures.reach.wide) in
    let ej : c.from-j.result ≡ get_or R.rows c.args.h 0 = c.from-j.ensures ∙ ap (λ (xs : List ℕ). get_or xs c.args.h 0) c.rows.ensures.value in
    let el : c.from-l.result ≡ get_or R.columns c.args.g 0 = c.from-l.ensures ∙ ap (λ (xs : List ℕ). get_or xs c.args.g 0) c.columns.ensures.value in
    λ d hd. column_left-within D R.rows R.columns columns c.args.g d c.requires.within c.requires.columns hg hd

pub fill_child-requires-clause-count : goal.fill_child-requires-clause-count
fill_child-requires-clause-count g c =
    let I = c.args.self.now.instance.now in
    let D = c.args.self.now.duals.now in
    let R = c.args.parent.now in
    let columns = c.args.columns.now in
    let hg : c.args.g < length R.columns = omega (arith, c.requires.column, c.rows.ensures.reach.wide) in
    let ej : c.from-j.result ≡ get_or R.rows c.args.h 0 = c.from-j.ensures ∙ ap (λ (xs : List ℕ). get_or xs c.args.h 0) c.rows.ensures.value in
    let el : c.from-l.result ≡ get_or R.columns c.args.g 0 = c.from-l.ensures ∙ ap (λ (xs : List ℕ). get_or xs c.args.g 0) c.columns.ensures.value in
    omega (arith, columns_left R.columns columns c.args.g c.requires.columns hg, c.rows.ensures.reach.wide)

pub fill_child-requires-clause-there : goal.fill_child-requires-clause-there
fill_child-requires-clause-there g c =
    let I = c.args.self.now.instance.now in
    let D = c.args.self.now.duals.now in
    let R = c.args.parent.now in
    let columns = c.args.columns.now in
    let hg : c.args.g < length R.columns = omega (arith, c.requires.column, c.rows.ensures.reach.wide) in
    let ej : c.from-j.result ≡ get_or R.rows c.args.h 0 = c.from-j.ensures ∙ ap (λ (xs : List ℕ). get_or xs c.args.h 0) c.rows.ensures.value in
    let el : c.from-l.result ≡ get_or R.columns c.args.g 0 = c.from-l.ensures ∙ ap (λ (xs : List ℕ). get_or xs c.args.g 0) c.columns.ensures.value in
    subst (λ (n : ℕ). IsDualRow (10 ^ 9) (length columns) (entry_to I D columns n) c.in_ok-shared.field-0.there.items) el c.in_ok-shared.ensures.there

pub fill_child-requires-clause-back : goal.fill_child-requires-clause-back
fill_child-requires-clause-back g c =
    let I = c.args.self.now.instance.now in
    let D = c.args.self.now.duals.now in
    let R = c.args.parent.now in
    let columns = c.args.columns.now in
    let hg : c.args.g < length R.columns = omega (arith, c.requires.column, c.rows.ensures.reach.wide) in
    let ej : c.from-j.result ≡ get_or R.rows c.args.h 0 = c.from-j.ensures ∙ ap (λ (xs : List ℕ). get_or xs c.args.h 0) c.rows.ensures.value in
    let el : c.from-l.result ≡ get_or R.columns c.args.g 0 = c.from-l.ensures ∙ ap (λ (xs : List ℕ). get_or xs c.args.g 0) c.columns.ensures.value in
    subst (λ (n : ℕ). IsDualRow (10 ^ 9) (length columns) (entry_from I D columns n) c.in_ok-shared.field-0.back.items) el c.in_ok-shared.ensures.back

pub fill_child-requires-clause-own : goal.fill_child-requires-clause-own
fill_child-requires-clause-own g c =
    let I = c.args.self.now.instance.now in
    let D = c.args.self.now.duals.now in
    let R = c.args.parent.now in
    let columns = c.args.columns.now in
    let hg : c.args.g < length R.columns = omega (arith, c.requires.column, c.rows.ensures.reach.wide) in
    let ej : c.from-j.result ≡ get_or R.rows c.args.h 0 = c.from-j.ensures ∙ ap (λ (xs : List ℕ). get_or xs c.args.h 0) c.rows.ensures.value in
    let el : c.from-l.result ≡ get_or R.columns c.args.g 0 = c.from-l.ensures ∙ ap (λ (xs : List ℕ). get_or xs c.args.g 0) c.columns.ensures.value in
    let value = g.N.Number.value in
    subst (λ (n : ℕ). IsDualRow g.N.Number.limits.dual (length columns) (beta_along D columns n (get_or R.columns c.args.g 0)) (map value c.in_ok-shared.field-0.own.items)) ej
    (subst (λ (n : ℕ). IsDualRow g.N.Number.limits.dual (length columns) (beta_along D columns c.from-j.result n) (map value c.in_ok-shared.field-0.own.items)) el c.in_ok-shared.ensures.own)
