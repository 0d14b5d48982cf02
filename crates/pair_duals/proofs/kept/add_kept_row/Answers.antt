use Rattle.std.proofs.Common.{◌≡◌, ◌-◌, ◌*◌, ◌+◌, ◌<◌, ℕ, length, get_or, map, set, arith, ap, ap₂, sym, subst, ◌∙◌, List}
use Rattle.std.specs.Prelude.{◌+ℤ◌}
use Rattle.std.proofs.lemmas.List.{length-map, map-set}
use Rattle.pair_duals.specs.Filling.{FillsPart}
use Rattle.pair_duals.specs.PairDuals.{residual}
use Rattle.pair_duals.specs.Reduced.{at, child_entry, count_of}
use Rattle.pair_duals.proofs.Children.{column_left, column_left-within, columns_left, within_sum}
use Rattle.pair_duals.proofs.DualRows.{dual_read}
use Rattle.pair_duals.proofs.Fillings.{FillsPart-none, FillsPart-more}
use Rattle.pair_duals.proofs.Values.{place_in_square}
use Rattle.pair_duals.proofs.kept.add_kept_row.Goals as goal

pub loop-c-init : goal.loop-c-init
loop-c-init g c = FillsPart-none _ _ _ _

pub returns : goal.returns
returns g c =
    let value = g.N.Number.value in
    let R = c.args.parent.now in
    let all : c.loop-c.c ≡ count_of R - 1 = omega (arith, c.free-m.ensures.value) in
    subst (λ (k : ℕ). FillsPart (count_of R - 1) (child_entry c.args.kept.now.problem c.args.kept.now.duals R.rows R.columns R.entries c.args.seat.now.0 c.args.seat.now.1) c.args.r k (map value c.args.entries.now) (map value c.loop-c.entries)) all c.loop-c.invariant

pub bounds-left-k : goal.bounds-left-k
bounds-left-k g c =
    let D = c.args.kept.now.duals in
    let R = c.args.parent.now in
    let seat_column = c.args.seat.now.1 in
    let columns = c.args.columns.now in
    let at_column = c.loop-c.c in
    let k0 = get_or columns at_column 0 in
    let hg : seat_column < length R.columns = omega (arith, c.requires.column, c.rows-rows.ensures.reach.wide) in
    let left = columns_left R.columns columns seat_column c.requires.columns hg in
    let hc : at_column < length columns = omega (arith, left, c.rows-rows.ensures.reach.wide, c.free-m.ensures.value, c.loop-c-test.true) in
    let hk0 : k0 < length D.locations = column_left-within D R.rows R.columns columns seat_column at_column c.requires.within c.requires.columns hg hc in
    let ek : c.from-k.result ≡ k0 = c.from-k.ensures in
    omega (arith, ek, hk0, c.row-left.ensures.count, c.row-left.ensures.row.count, length-map c.row-left.result.now g.N.Number.value)

pub offset_bounds-left-k : goal.offset_bounds-left-k
offset_bounds-left-k g c = let below = bounds-left-k g c in omega (arith, below)

pub plus-requires : goal.plus-requires
plus-requires g c =
    let I = c.args.kept.now.problem in
    let D = c.args.kept.now.duals in
    let R = c.args.parent.now in
    let reach = c.rows-rows.ensures.reach in
    let m = length D.facilities in
    let row : c.past-row.result < count_of R = omega (arith, c.past-row.ensures.within, c.requires.r_in) in
    let column : c.past-column.result < count_of R = omega (arith, c.past-column.ensures.within, c.free-m.ensures.value, c.loop-c-test.true) in
    let seat_column = c.args.seat.now.1 in
    let columns = c.args.columns.now in
    let at_column = c.loop-c.c in
    let k0 = get_or columns at_column 0 in
    let hg : seat_column < length R.columns = omega (arith, c.requires.column, reach.wide) in
    let near = columns_left R.columns columns seat_column c.requires.columns hg in
    let hc : at_column < length columns = omega (arith, near, c.rows-rows.ensures.reach.wide, c.free-m.ensures.value, c.loop-c-test.true) in
    let hk0 : k0 < length D.locations = column_left-within D R.rows R.columns columns seat_column at_column c.requires.within c.requires.columns hg hc in
    let ek : c.from-k.result ≡ k0 = c.from-k.ensures in
    let within : c.from-k.result < m = omega (arith, ek, hk0, c.row-left.ensures.count) in
    let pair = dual_read g.N.Number.value g.N.Number.limits.pair m (λ y. residual I D c.from-i.result y c.from-j.result c.from-l.result) c.row-left.result.now c.from-k.result c.index-left-k.result c.row-left.ensures.row c.index-left-k.is within in
    let own = dual_read g.N.Number.value g.N.Number.limits.reach (count_of R) (at R c.past-row.result) c.row-own.result.now c.past-column.result c.index-own-column.result c.row-own.ensures c.index-own-column.is column in
    within_sum g.N.Number.limits R c.past-row.result c.past-column.result _ _ g.met.N.Number.enough reach row column own.0 pair.1

pub loop-c-preserved : goal.loop-c-preserved
loop-c-preserved g c =
    let value = g.N.Number.value in
    let I = c.args.kept.now.problem in
    let D = c.args.kept.now.duals in
    let R = c.args.parent.now in
    let m = length D.facilities in
    let h = c.args.seat.now.0 in
    let seat_column = c.args.seat.now.1 in
    let columns = c.args.columns.now in
    let at_column = c.loop-c.c in
    let i0 = get_or R.rows c.past-row.result 0 in
    let k0 = get_or columns at_column 0 in
    let j0 = get_or R.rows h 0 in
    let l0 = get_or R.columns seat_column 0 in
    let hg : seat_column < length R.columns = omega (arith, c.requires.column, c.rows-rows.ensures.reach.wide) in
    let ei : c.from-i.result ≡ i0 = c.from-i.ensures ∙ ap (λ (xs : List ℕ). get_or xs c.past-row.result 0) c.rows-rows.ensures.value in
    let ej : c.from-j.result ≡ j0 = c.from-j.ensures ∙ ap (λ (xs : List ℕ). get_or xs h 0) c.rows-rows.ensures.value in
    let el : c.from-l.result ≡ l0 = c.from-l.ensures ∙ ap (λ (xs : List ℕ). get_or xs seat_column 0) c.columns.ensures.value in
    let ek : c.from-k.result ≡ k0 = c.from-k.ensures in
    let near = columns_left R.columns columns seat_column c.requires.columns hg in
    let hc : at_column < length columns = omega (arith, near, c.rows-rows.ensures.reach.wide, c.free-m.ensures.value, c.loop-c-test.true) in
    let hk0 : k0 < length D.locations = column_left-within D R.rows R.columns columns seat_column at_column c.requires.within c.requires.columns hg hc in
    let within : c.from-k.result < m = omega (arith, ek, hk0, c.row-left.ensures.count) in
    let pair = dual_read value g.N.Number.limits.pair m (λ y. residual I D c.from-i.result y c.from-j.result c.from-l.result) c.row-left.result.now c.from-k.result c.index-left-k.result c.row-left.ensures.row c.index-left-k.is within in
    let left : value c.index-left-k.result ≡ residual I D i0 k0 j0 l0 =
    pair.0 ∙ ap (λ (x : ℕ). residual I D x c.from-k.result c.from-j.result c.from-l.result) ei ∙ ap (λ (x : ℕ). residual I D i0 x c.from-j.result c.from-l.result) ek
    ∙ ap (λ (x : ℕ). residual I D i0 k0 x c.from-l.result) ej ∙ ap (residual I D i0 k0 j0) el in
    let column : c.past-column.result < count_of R = omega (arith, c.past-column.ensures.within, c.free-m.ensures.value, c.loop-c-test.true) in
    let own = dual_read g.N.Number.value g.N.Number.limits.reach (count_of R) (at R c.past-row.result) c.row-own.result.now c.past-column.result c.index-own-column.result c.row-own.ensures c.index-own-column.is column in
    let is : value c.plus.result ≡ child_entry I D R.rows R.columns R.entries h seat_column c.args.r at_column =
    c.plus.ensures
    ∙ ap₂ ◌+ℤ◌ own.0 (left ∙ ap (λ (y : ℕ). residual I D i0 y j0 l0) (column_left R.columns columns seat_column at_column c.requires.columns hg ∙ ap (λ (n : ℕ). get_or R.columns n 0) (sym c.past-column.ensures.value)))
    ∙ ap₂ (λ (x y : ℕ). at R x y +ℤ residual I D (get_or R.rows x 0) (get_or R.columns y 0) j0 l0) c.past-row.ensures.value c.past-column.ensures.value in
    let n = count_of R - 1 in
    let r = c.args.r in
    let entry_at = child_entry I D R.rows R.columns R.entries h seat_column in
    let same : c.free-m.result - 1 ≡ n = omega (arith, c.free-m.ensures.value) in
    let inside = place_in_square n r at_column c.requires.r_in (omega (arith, same, c.loop-c-test.true)) in
    let written = c.write.ensures ∙ ap (λ (w : ℕ). set c.loop-c.entries (r * w + at_column) c.plus.result) same in
    subst (λ (xs : List g.row.N.Denot). FillsPart n entry_at r (at_column + 1) (map value c.args.entries.now) (map value xs)) (sym written)
    (rw (map-set value c.loop-c.entries (r * n + at_column) c.plus.result)
    (FillsPart-more n entry_at r at_column (map value c.args.entries.now) (map value c.loop-c.entries) (value c.plus.result) c.loop-c.invariant (omega (arith, inside, length-map c.loop-c.entries value, c.requires.room)) is))
