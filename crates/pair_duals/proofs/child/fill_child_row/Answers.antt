use Rattle.std.proofs.Common.{◌≡◌, ◌-◌, ◌*◌, ◌^◌, ◌+◌, ◌<◌, ℕ, length, get_or, map, set, arith, ap, ap₂, refl, sym, subst, ◌∙◌, List}
use Rattle.std.specs.Prelude.{pos, ◌+ℤ◌}
use Rattle.std.proofs.lemmas.Int.{ints}
use Rattle.std.proofs.lemmas.List.{length-map, map-set}
use Rattle.qap_cost.specs.Instance.{entry}
use Rattle.qap_cost.proofs.Objectives.{reads_entry}
use Rattle.pair_duals.specs.DualRow.{IsDualRow}
use Rattle.pair_duals.specs.Filling.{FillsPart}
use Rattle.pair_duals.specs.PairDuals.{alpha_of, beta_of, in_layers, residual}
use Rattle.pair_duals.specs.Reduced.{at, child_entry, count_of}
use Rattle.pair_duals.specs.Shared.{beta_along, entry_from, entry_to}
use Rattle.pair_duals.proofs.Children.{column_left, column_left-within, within_sum}
use Rattle.pair_duals.proofs.DualRows.{dual_read}
use Rattle.pair_duals.proofs.Fillings.{FillsPart-none, FillsPart-more}
use Rattle.pair_duals.proofs.PairLines.{part-within, residual-from_parts, scaled_entry-read}
use Rattle.pair_duals.proofs.Products.{roomy}
use Rattle.pair_duals.proofs.Values.{place_in_square}
use Rattle.pair_duals.proofs.child.fill_child_row.Goals as goal

pub loop-c-init : goal.loop-c-init
loop-c-init g c = FillsPart-none _ _ _ _

pub write-requires-clause-count : goal.write-requires-clause-count
write-requires-clause-count g c =
    let same : count_of c.args.parent.now - 1 ≡ c.free-m.result - 1 = omega (arith, c.free-m.ensures.value) in
    c.loop-c.auto.entries ∙ c.requires.room ∙ ap₂ ◌*◌ same same

pub bounds-alpha-k : goal.bounds-alpha-k
bounds-alpha-k g c =
    let I = c.args.residuals.now.instance.now in
    let D = c.args.residuals.now.duals.now in
    let R = c.args.parent.now in
    let m = length D.facilities in
    let h = c.args.seat.now.0 in
    let seat_column = c.args.seat.now.1 in
    let columns = c.args.columns.now in
    let at_column = c.loop-c.c in
    let i0 = get_or R.rows c.past-row.result 0 in
    let k0 = get_or columns at_column 0 in
    let j0 = get_or R.rows h 0 in
    let l0 = get_or R.columns seat_column 0 in
    let ek : c.from-k.result ≡ k0 = c.from-k.ensures in
    let hg : seat_column < length R.columns = omega (arith, c.requires.column, c.rows-rows.ensures.reach.wide) in
    let hc : at_column < length columns = omega (arith, c.requires.count, c.free-m.ensures.value, c.loop-c-test.true) in
    let hk0 : k0 < length D.locations = column_left-within D R.rows R.columns columns seat_column at_column c.requires.within c.requires.columns hg hc in
    let hk : c.from-k.result < length D.locations = subst (λ n. n < length D.locations) (sym ek) hk0 in
    let within : c.from-k.result < m = omega (arith, hk, c.alpha_row-alpha.ensures.duals.same_count) in
    omega (arith, within, c.alpha_row-alpha.ensures.row.count, length-map c.alpha_row-alpha.result.now g.N.Number.value)

pub offset_bounds-alpha-k : goal.offset_bounds-alpha-k
offset_bounds-alpha-k g c = let below = bounds-alpha-k g c in omega (arith, below)

pub bounds-beta-k : goal.bounds-beta-k
bounds-beta-k g c =
    let I = c.args.residuals.now.instance.now in
    let D = c.args.residuals.now.duals.now in
    let R = c.args.parent.now in
    let m = length D.facilities in
    let h = c.args.seat.now.0 in
    let seat_column = c.args.seat.now.1 in
    let columns = c.args.columns.now in
    let at_column = c.loop-c.c in
    let i0 = get_or R.rows c.past-row.result 0 in
    let k0 = get_or columns at_column 0 in
    let j0 = get_or R.rows h 0 in
    let l0 = get_or R.columns seat_column 0 in
    let ek : c.from-k.result ≡ k0 = c.from-k.ensures in
    let hg : seat_column < length R.columns = omega (arith, c.requires.column, c.rows-rows.ensures.reach.wide) in
    let hc : at_column < length columns = omega (arith, c.requires.count, c.free-m.ensures.value, c.loop-c-test.true) in
    let hk0 : k0 < length D.locations = column_left-within D R.rows R.columns columns seat_column at_column c.requires.within c.requires.columns hg hc in
    let hk : c.from-k.result < length D.locations = subst (λ n. n < length D.locations) (sym ek) hk0 in
    let within : c.from-k.result < m = omega (arith, hk, c.alpha_row-alpha.ensures.duals.same_count) in
    omega (arith, within, c.beta_row-beta.ensures.row.count, length-map c.beta_row-beta.result.now g.N.Number.value)

pub offset_bounds-beta-k : goal.offset_bounds-beta-k
offset_bounds-beta-k g c = let below = bounds-beta-k g c in omega (arith, below)

pub plus-requires : goal.plus-requires
plus-requires g c =
    let I = c.args.residuals.now.instance.now in
    let D = c.args.residuals.now.duals.now in
    let R = c.args.parent.now in
    let m = length D.facilities in
    let h = c.args.seat.now.0 in
    let seat_column = c.args.seat.now.1 in
    let columns = c.args.columns.now in
    let at_column = c.loop-c.c in
    let i0 = get_or R.rows c.past-row.result 0 in
    let k0 = get_or columns at_column 0 in
    let j0 = get_or R.rows h 0 in
    let l0 = get_or R.columns seat_column 0 in
    let ek : c.from-k.result ≡ k0 = c.from-k.ensures in
    let hg : seat_column < length R.columns = omega (arith, c.requires.column, c.rows-rows.ensures.reach.wide) in
    let hc : at_column < length columns = omega (arith, c.requires.count, c.free-m.ensures.value, c.loop-c-test.true) in
    let hk0 : k0 < length D.locations = column_left-within D R.rows R.columns columns seat_column at_column c.requires.within c.requires.columns hg hc in
    let hk : c.from-k.result < length D.locations = subst (λ n. n < length D.locations) (sym ek) hk0 in
    let within : c.from-k.result < m = omega (arith, hk, c.alpha_row-alpha.ensures.duals.same_count) in
    let a = dual_read g.N.Number.value g.N.Number.limits.dual m (in_layers m D.alpha c.from-j.result c.from-i.result) c.alpha_row-alpha.result.now c.from-k.result c.index-alpha-k.result c.alpha_row-alpha.ensures.row c.index-alpha-k.is within in
    let b = dual_read g.N.Number.value g.N.Number.limits.dual m (in_layers m D.beta c.from-l.result c.from-i.result) c.beta_row-beta.result.now c.from-k.result c.index-beta-k.result c.beta_row-beta.ensures.row c.index-beta-k.is within in
    omega (arith, ints, a.1, b.1, (roomy g.N.Number.limits g.met.N.Number.enough).dual)

pub left_of-left-requires-clause-there : goal.left_of-left-requires-clause-there
left_of-left-requires-clause-there g c =
    let I = c.args.residuals.now.instance.now in
    let D = c.args.residuals.now.duals.now in
    let R = c.args.parent.now in
    let m = length D.facilities in
    let h = c.args.seat.now.0 in
    let seat_column = c.args.seat.now.1 in
    let columns = c.args.columns.now in
    let at_column = c.loop-c.c in
    let i0 = get_or R.rows c.past-row.result 0 in
    let k0 = get_or columns at_column 0 in
    let j0 = get_or R.rows h 0 in
    let l0 = get_or R.columns seat_column 0 in
    let ek : c.from-k.result ≡ k0 = c.from-k.ensures in
    let hg : seat_column < length R.columns = omega (arith, c.requires.column, c.rows-rows.ensures.reach.wide) in
    let hc : at_column < length columns = omega (arith, c.requires.count, c.free-m.ensures.value, c.loop-c-test.true) in
    let hk0 : k0 < length D.locations = column_left-within D R.rows R.columns columns seat_column at_column c.requires.within c.requires.columns hg hc in
    let hk : c.from-k.result < length D.locations = subst (λ n. n < length D.locations) (sym ek) hk0 in
    let f = c.facility-facility.result in
    let e = c.facility-other.result in
    let hf : f < I.size = omega (arith, c.requires.size, c.facility-facility.ensures.within) in
    let he : e < I.size = omega (arith, c.requires.size, c.facility-other.ensures.within) in
    let from = get_or D.locations k0 0 in
    let to = get_or D.locations l0 0 in
    let hl : l0 < length D.locations = c.requires.within.each_column seat_column hg in
    let hfrom : from < I.size = omega (arith, c.requires.size, c.alpha_row-alpha.ensures.duals.locations k0 hk0) in
    let hto : to < I.size = omega (arith, c.requires.size, c.alpha_row-alpha.ensures.duals.locations l0 hl) in
    let a_there = scaled_entry-read D.scale c.scale.result c.scaled_entry-a_there.result c.a.result (entry I.size I.a f e) c.scaled_entry-a_there.ensures c.scale.ensures.value c.scale.ensures.duals.scale c.a.ensures.value c.a.ensures.range in
    let row_there : IsDualRow (10 ^ 9) (length columns) (entry_to I D columns l0) c.deref-there.result.now = subst (IsDualRow (10 ^ 9) (length columns) (entry_to I D columns l0)) (sym c.deref-there.ensures.value) c.requires.there in
    let distance = reads_entry (get_or c.deref-there.result.now at_column (pos 0)) (row_there.range.each at_column (omega (arith, hc, row_there.count))) ∙ row_there.entries at_column hc in
    part-within g.N.Number.limits I D.scale f e from to _ _ c.requires.in_scale hf he hfrom hto a_there distance

pub left_of-left-requires-clause-back : goal.left_of-left-requires-clause-back
left_of-left-requires-clause-back g c =
    let I = c.args.residuals.now.instance.now in
    let D = c.args.residuals.now.duals.now in
    let R = c.args.parent.now in
    let m = length D.facilities in
    let h = c.args.seat.now.0 in
    let seat_column = c.args.seat.now.1 in
    let columns = c.args.columns.now in
    let at_column = c.loop-c.c in
    let i0 = get_or R.rows c.past-row.result 0 in
    let k0 = get_or columns at_column 0 in
    let j0 = get_or R.rows h 0 in
    let l0 = get_or R.columns seat_column 0 in
    let ek : c.from-k.result ≡ k0 = c.from-k.ensures in
    let hg : seat_column < length R.columns = omega (arith, c.requires.column, c.rows-rows.ensures.reach.wide) in
    let hc : at_column < length columns = omega (arith, c.requires.count, c.free-m.ensures.value, c.loop-c-test.true) in
    let hk0 : k0 < length D.locations = column_left-within D R.rows R.columns columns seat_column at_column c.requires.within c.requires.columns hg hc in
    let hk : c.from-k.result < length D.locations = subst (λ n. n < length D.locations) (sym ek) hk0 in
    let f = c.facility-facility.result in
    let e = c.facility-other.result in
    let hf : f < I.size = omega (arith, c.requires.size, c.facility-facility.ensures.within) in
    let he : e < I.size = omega (arith, c.requires.size, c.facility-other.ensures.within) in
    let from = get_or D.locations k0 0 in
    let to = get_or D.locations l0 0 in
    let hl : l0 < length D.locations = c.requires.within.each_column seat_column hg in
    let hfrom : from < I.size = omega (arith, c.requires.size, c.alpha_row-alpha.ensures.duals.locations k0 hk0) in
    let hto : to < I.size = omega (arith, c.requires.size, c.alpha_row-alpha.ensures.duals.locations l0 hl) in
    let a_back = scaled_entry-read D.scale c.scale-2.result c.scaled_entry-a_back.result c.a-2.result (entry I.size I.a e f) c.scaled_entry-a_back.ensures c.scale-2.ensures.value c.scale-2.ensures.duals.scale c.a-2.ensures.value c.a-2.ensures.range in
    let row_back : IsDualRow (10 ^ 9) (length columns) (entry_from I D columns l0) c.deref-back.result.now = subst (IsDualRow (10 ^ 9) (length columns) (entry_from I D columns l0)) (sym c.deref-back.ensures.value) c.requires.back in
    let distance_back = reads_entry (get_or c.deref-back.result.now at_column (pos 0)) (row_back.range.each at_column (omega (arith, hc, row_back.count))) ∙ row_back.entries at_column hc in
    part-within g.N.Number.limits I D.scale e f to from _ _ c.requires.in_scale he hf hto hfrom a_back distance_back

pub left_of-left-requires-clause-own : goal.left_of-left-requires-clause-own
left_of-left-requires-clause-own g c =
    let I = c.args.residuals.now.instance.now in
    let D = c.args.residuals.now.duals.now in
    let R = c.args.parent.now in
    let m = length D.facilities in
    let h = c.args.seat.now.0 in
    let seat_column = c.args.seat.now.1 in
    let columns = c.args.columns.now in
    let at_column = c.loop-c.c in
    let i0 = get_or R.rows c.past-row.result 0 in
    let k0 = get_or columns at_column 0 in
    let j0 = get_or R.rows h 0 in
    let l0 = get_or R.columns seat_column 0 in
    let ek : c.from-k.result ≡ k0 = c.from-k.ensures in
    let hg : seat_column < length R.columns = omega (arith, c.requires.column, c.rows-rows.ensures.reach.wide) in
    let hc : at_column < length columns = omega (arith, c.requires.count, c.free-m.ensures.value, c.loop-c-test.true) in
    let hk0 : k0 < length D.locations = column_left-within D R.rows R.columns columns seat_column at_column c.requires.within c.requires.columns hg hc in
    let hk : c.from-k.result < length D.locations = subst (λ n. n < length D.locations) (sym ek) hk0 in
    let within : c.from-k.result < m = omega (arith, hk, c.alpha_row-alpha.ensures.duals.same_count) in
    let a = dual_read g.N.Number.value g.N.Number.limits.dual m (in_layers m D.alpha c.from-j.result c.from-i.result) c.alpha_row-alpha.result.now c.from-k.result c.index-alpha-k.result c.alpha_row-alpha.ensures.row c.index-alpha-k.is within in
    let b = dual_read g.N.Number.value g.N.Number.limits.dual m (in_layers m D.beta c.from-l.result c.from-i.result) c.beta_row-beta.result.now c.from-k.result c.index-beta-k.result c.beta_row-beta.ensures.row c.index-beta-k.is within in
    omega (arith, ints, a.1, b.1, c.plus.ensures)

pub plus-requires-in-loop-c : goal.plus-requires-in-loop-c
plus-requires-in-loop-c g c =
    let I = c.args.residuals.now.instance.now in
    let D = c.args.residuals.now.duals.now in
    let R = c.args.parent.now in
    let m = length D.facilities in
    let h = c.args.seat.now.0 in
    let seat_column = c.args.seat.now.1 in
    let columns = c.args.columns.now in
    let at_column = c.loop-c.c in
    let i0 = get_or R.rows c.past-row.result 0 in
    let k0 = get_or columns at_column 0 in
    let j0 = get_or R.rows h 0 in
    let l0 = get_or R.columns seat_column 0 in
    let ek : c.from-k.result ≡ k0 = c.from-k.ensures in
    let hg : seat_column < length R.columns = omega (arith, c.requires.column, c.rows-rows.ensures.reach.wide) in
    let hc : at_column < length columns = omega (arith, c.requires.count, c.free-m.ensures.value, c.loop-c-test.true) in
    let hk0 : k0 < length D.locations = column_left-within D R.rows R.columns columns seat_column at_column c.requires.within c.requires.columns hg hc in
    let hk : c.from-k.result < length D.locations = subst (λ n. n < length D.locations) (sym ek) hk0 in
    let shared_own : IsDualRow g.N.Number.limits.dual (length columns) (beta_along D columns j0 l0) (map g.N.Number.value c.deref-owns.result.now) = subst (λ (xs : List g.row.N.Denot). IsDualRow g.N.Number.limits.dual (length columns) (beta_along D columns j0 l0) (map g.N.Number.value xs)) (sym c.deref-owns.ensures.value) c.requires.own in
    let o = dual_read g.N.Number.value g.N.Number.limits.dual (length columns) (beta_along D columns j0 l0) c.deref-owns.result.now at_column c.index-owns-c.result shared_own c.index-owns-c.is hc in
    omega (arith, ints, o.1, c.alpha-own.ensures.range, (roomy g.N.Number.limits g.met.N.Number.enough).dual)

pub left_of-left-requires-clause-other : goal.left_of-left-requires-clause-other
left_of-left-requires-clause-other g c =
    let I = c.args.residuals.now.instance.now in
    let D = c.args.residuals.now.duals.now in
    let R = c.args.parent.now in
    let m = length D.facilities in
    let h = c.args.seat.now.0 in
    let seat_column = c.args.seat.now.1 in
    let columns = c.args.columns.now in
    let at_column = c.loop-c.c in
    let i0 = get_or R.rows c.past-row.result 0 in
    let k0 = get_or columns at_column 0 in
    let j0 = get_or R.rows h 0 in
    let l0 = get_or R.columns seat_column 0 in
    let ek : c.from-k.result ≡ k0 = c.from-k.ensures in
    let hg : seat_column < length R.columns = omega (arith, c.requires.column, c.rows-rows.ensures.reach.wide) in
    let hc : at_column < length columns = omega (arith, c.requires.count, c.free-m.ensures.value, c.loop-c-test.true) in
    let hk0 : k0 < length D.locations = column_left-within D R.rows R.columns columns seat_column at_column c.requires.within c.requires.columns hg hc in
    let hk : c.from-k.result < length D.locations = subst (λ n. n < length D.locations) (sym ek) hk0 in
    let shared_own : IsDualRow g.N.Number.limits.dual (length columns) (beta_along D columns j0 l0) (map g.N.Number.value c.deref-owns.result.now) = subst (λ (xs : List g.row.N.Denot). IsDualRow g.N.Number.limits.dual (length columns) (beta_along D columns j0 l0) (map g.N.Number.value xs)) (sym c.deref-owns.ensures.value) c.requires.own in
    let o = dual_read g.N.Number.value g.N.Number.limits.dual (length columns) (beta_along D columns j0 l0) c.deref-owns.result.now at_column c.index-owns-c.result shared_own c.index-owns-c.is hc in
    omega (arith, ints, o.1, c.alpha-own.ensures.range, c.plus-in-loop-c.ensures)

pub plus-requires-in-loop-c-2 : goal.plus-requires-in-loop-c-2
plus-requires-in-loop-c-2 g c =
    let reach = c.rows-rows.ensures.reach in
    let row : c.past-row.result < count_of c.args.parent.now = omega (arith, c.past-row.ensures.within, c.requires.r_in) in
    let column : c.past-column.result < count_of c.args.parent.now = omega (arith, c.past-column.ensures.within, c.free-m.ensures.value, c.loop-c-test.true) in
    within_sum g.N.Number.limits c.args.parent.now c.past-row.result c.past-column.result _ _ g.met.N.Number.enough reach row column c.entry.ensures c.left_of-left.ensures.range

pub loop-c-preserved : goal.loop-c-preserved
loop-c-preserved g c =
    let I = c.args.residuals.now.instance.now in
    let D = c.args.residuals.now.duals.now in
    let R = c.args.parent.now in
    let m = length D.facilities in
    let h = c.args.seat.now.0 in
    let seat_column = c.args.seat.now.1 in
    let columns = c.args.columns.now in
    let at_column = c.loop-c.c in
    let i0 = get_or R.rows c.past-row.result 0 in
    let k0 = get_or columns at_column 0 in
    let j0 = get_or R.rows h 0 in
    let l0 = get_or R.columns seat_column 0 in
    let ek : c.from-k.result ≡ k0 = c.from-k.ensures in
    let hg : seat_column < length R.columns = omega (arith, c.requires.column, c.rows-rows.ensures.reach.wide) in
    let hc : at_column < length columns = omega (arith, c.requires.count, c.free-m.ensures.value, c.loop-c-test.true) in
    let hk0 : k0 < length D.locations = column_left-within D R.rows R.columns columns seat_column at_column c.requires.within c.requires.columns hg hc in
    let hk : c.from-k.result < length D.locations = subst (λ n. n < length D.locations) (sym ek) hk0 in
    let ei : c.from-i.result ≡ i0 = c.from-i.ensures ∙ ap (λ (xs : List ℕ). get_or xs c.past-row.result 0) c.rows-rows.ensures.value in
    let ej : c.from-j.result ≡ j0 = c.from-j.ensures ∙ ap (λ (xs : List ℕ). get_or xs h 0) c.rows-rows.ensures.value in
    let el : c.from-l.result ≡ l0 = c.from-l.ensures ∙ ap (λ (xs : List ℕ). get_or xs seat_column 0) c.columns.ensures.value in
    let within : c.from-k.result < m = omega (arith, hk, c.alpha_row-alpha.ensures.duals.same_count) in
    let a = dual_read g.N.Number.value g.N.Number.limits.dual m (in_layers m D.alpha c.from-j.result c.from-i.result) c.alpha_row-alpha.result.now c.from-k.result c.index-alpha-k.result c.alpha_row-alpha.ensures.row c.index-alpha-k.is within in
    let b = dual_read g.N.Number.value g.N.Number.limits.dual m (in_layers m D.beta c.from-l.result c.from-i.result) c.beta_row-beta.result.now c.from-k.result c.index-beta-k.result c.beta_row-beta.ensures.row c.index-beta-k.is within in
    let shared_own : IsDualRow g.N.Number.limits.dual (length columns) (beta_along D columns j0 l0) (map g.N.Number.value c.deref-owns.result.now) = subst (λ (xs : List g.row.N.Denot). IsDualRow g.N.Number.limits.dual (length columns) (beta_along D columns j0 l0) (map g.N.Number.value xs)) (sym c.deref-owns.ensures.value) c.requires.own in
    let o = dual_read g.N.Number.value g.N.Number.limits.dual (length columns) (beta_along D columns j0 l0) c.deref-owns.result.now at_column c.index-owns-c.result shared_own c.index-owns-c.is hc in
    let f = c.facility-facility.result in
    let e = c.facility-other.result in
    let hf : f < I.size = omega (arith, c.requires.size, c.facility-facility.ensures.within) in
    let he : e < I.size = omega (arith, c.requires.size, c.facility-other.ensures.within) in
    let from = get_or D.locations k0 0 in
    let to = get_or D.locations l0 0 in
    let a_there = scaled_entry-read D.scale c.scale.result c.scaled_entry-a_there.result c.a.result (entry I.size I.a f e) c.scaled_entry-a_there.ensures c.scale.ensures.value c.scale.ensures.duals.scale c.a.ensures.value c.a.ensures.range in
    let row_there : IsDualRow (10 ^ 9) (length columns) (entry_to I D columns l0) c.deref-there.result.now = subst (IsDualRow (10 ^ 9) (length columns) (entry_to I D columns l0)) (sym c.deref-there.ensures.value) c.requires.there in
    let distance = reads_entry (get_or c.deref-there.result.now at_column (pos 0)) (row_there.range.each at_column (omega (arith, hc, row_there.count))) ∙ row_there.entries at_column hc in
    let a_back = scaled_entry-read D.scale c.scale-2.result c.scaled_entry-a_back.result c.a-2.result (entry I.size I.a e f) c.scaled_entry-a_back.ensures c.scale-2.ensures.value c.scale-2.ensures.duals.scale c.a-2.ensures.value c.a-2.ensures.range in
    let row_back : IsDualRow (10 ^ 9) (length columns) (entry_from I D columns l0) c.deref-back.result.now = subst (IsDualRow (10 ^ 9) (length columns) (entry_from I D columns l0)) (sym c.deref-back.ensures.value) c.requires.back in
    let distance_back = reads_entry (get_or c.deref-back.result.now at_column (pos 0)) (row_back.range.each at_column (omega (arith, hc, row_back.count))) ∙ row_back.entries at_column hc in
    let alpha : g.N.Number.value c.index-alpha-k.result ≡ alpha_of D i0 k0 j0 =
    a.0 ∙ ap (λ n. in_layers m D.alpha n c.from-i.result c.from-k.result) ej ∙ ap (λ n. in_layers m D.alpha j0 n c.from-k.result) ei ∙ ap (in_layers m D.alpha j0 i0) ek in
    let beta : g.N.Number.value c.index-beta-k.result ≡ beta_of D i0 k0 l0 =
    b.0 ∙ ap (λ n. in_layers m D.beta n c.from-i.result c.from-k.result) el ∙ ap (λ n. in_layers m D.beta l0 n c.from-k.result) ei ∙ ap (in_layers m D.beta l0 i0) ek in
    let own : g.N.Number.value c.alpha-own.result ≡ alpha_of D j0 l0 i0 =
    c.alpha-own.ensures.value ∙ ap (λ n. alpha_of D n c.from-l.result c.from-i.result) ej ∙ ap (λ n. alpha_of D j0 n c.from-i.result) el ∙ ap (alpha_of D j0 l0) ei in
    let left : g.N.Number.value c.left_of-left.result ≡ residual I D i0 k0 j0 l0 =
    residual-from_parts I D i0 k0 j0 l0 f from e to _ _ _ _ _ _ (g.N.Number.value c.left_of-left.result)
    (c.facility-facility.ensures.value ∙ ap (λ n. get_or D.facilities n 0) ei) refl (c.facility-other.ensures.value ∙ ap (λ n. get_or D.facilities n 0) ej) refl a_there distance a_back distance_back
    (c.plus.ensures ∙ ap₂ ◌+ℤ◌ alpha beta) (c.plus-in-loop-c.ensures ∙ ap₂ ◌+ℤ◌ own o.0) c.left_of-left.ensures.value in
    let is : g.N.Number.value c.plus-in-loop-c-2.result ≡ child_entry I D R.rows R.columns R.entries h seat_column c.args.r c.loop-c.c =
    c.plus-in-loop-c-2.ensures
    ∙ ap₂ ◌+ℤ◌ c.entry.ensures (left ∙ ap (λ y. residual I D i0 y j0 l0) (column_left R.columns columns seat_column at_column c.requires.columns hg ∙ ap (λ n. get_or R.columns n 0) (sym c.past-column.ensures.value)))
    ∙ ap₂ (λ (x y : ℕ). at R x y +ℤ residual I D (get_or R.rows x 0) (get_or R.columns y 0) j0 l0) c.past-row.ensures.value c.past-column.ensures.value in
    let value = g.N.Number.value in
    let n = count_of R - 1 in
    let r = c.args.r in
    let entry_at = child_entry I D R.rows R.columns R.entries h seat_column in
    let same : c.free-m.result - 1 ≡ n = omega (arith, c.free-m.ensures.value) in
    let inside = place_in_square n r at_column c.requires.r_in (omega (arith, same, c.loop-c-test.true)) in
    let written = c.write.ensures ∙ ap (λ (w : ℕ). set c.loop-c.entries (r * w + at_column) c.plus-in-loop-c-2.result) same in
    subst (λ (xs : List g.row.N.Denot). FillsPart n entry_at r (at_column + 1) (map value c.args.entries.now) (map value xs)) (sym written)
    (rw (map-set value c.loop-c.entries (r * n + at_column) c.plus-in-loop-c-2.result)
    (FillsPart-more n entry_at r at_column (map value c.args.entries.now) (map value c.loop-c.entries) (value c.plus-in-loop-c-2.result) c.loop-c.invariant (omega (arith, inside, length-map c.loop-c.entries value, c.requires.room)) is))

pub returns : goal.returns
returns g c =
    let value = g.N.Number.value in
    let R = c.args.parent.now in
    let all : c.loop-c.c ≡ count_of R - 1 = omega (arith, c.free-m.ensures.value) in
    subst (λ (k : ℕ). FillsPart (count_of R - 1) (child_entry c.args.residuals.now.instance.now c.args.residuals.now.duals.now R.rows R.columns R.entries c.args.seat.now.0 c.args.seat.now.1) c.args.r k (map value c.args.entries.now) (map value c.loop-c.entries)) all c.loop-c.invariant
