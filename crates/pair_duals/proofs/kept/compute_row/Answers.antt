use Rattle.std.proofs.Common.{◌≡◌, ◌*◌, ◌^◌, ◌+◌, ◌<◌, ℕ, length, get_or, map, set, arith, ap, ap₂, refl, sym, subst, ◌∙◌, List}
use Rattle.std.specs.Prelude.{pos, ◌+ℤ◌}
use Rattle.std.proofs.lemmas.Int.{ints}
use Rattle.std.proofs.lemmas.List.{length-map, map-set}
use Rattle.qap_cost.specs.Instance.{entry}
use Rattle.qap_cost.proofs.Objectives.{reads_entry}
use Rattle.pair_duals.specs.DualRow.{IsDualRow}
use Rattle.pair_duals.specs.Filling.{FillsPart}
use Rattle.pair_duals.specs.Kept.{kept_row}
use Rattle.pair_duals.specs.PairDuals.{beta_of, cube, in_layers, residual}
use Rattle.pair_duals.specs.Shared.{beta_along, entry_from, entry_to}
use Rattle.pair_duals.proofs.DualRows.{dual_read}
use Rattle.pair_duals.proofs.Fillings.{FillsPart-none, FillsPart-more}
use Rattle.pair_duals.proofs.KeptRows.{row_in_table}
use Rattle.pair_duals.proofs.PairLines.{part-within, residual-from_parts, scaled_entry-read}
use Rattle.pair_duals.proofs.Products.{roomy}
use Rattle.pair_duals.proofs.kept.compute_row.Goals as goal

pub loop-k-init : goal.loop-k-init
loop-k-init g c = FillsPart-none _ _ _ _

pub overflow_add-start : goal.overflow_add-start
overflow_add-start g c = omega (arith, c.start_of_row-start.ensures.within, c.start_of_row-start.ensures.small, c.loop-k-test.true)

pub put-requires : goal.put-requires
put-requires g c =
    let m = length c.args.duals.now.facilities in
    let same : c.free-m.result ≡ m = c.free-m.ensures.value in
    let square : cube c.free-m.result * c.free-m.result ≡ cube m * m = ap (λ n. cube n * n) same in
    let count : length c.loop-k.table ≡ length c.args.table.now = c.loop-k.auto.table in
    omega (arith, c.start_of_row-start.ensures.within, square, count, c.requires.room, c.loop-k-test.true)

pub plus-requires : goal.plus-requires
plus-requires g c =
    let D = c.args.duals.now in
    let m = length D.facilities in
    let i = c.args.pair.now.0 in
    let j = c.args.pair.now.1 in
    let l = c.args.pair.now.2 in
    let k = c.loop-k.k in
    let hk : k < m = omega (arith, c.free-m.ensures.value, c.loop-k-test.true) in
    let a = dual_read g.N.Number.value g.N.Number.limits.dual m (in_layers m D.alpha j i) c.alpha_row-alpha.result.now k c.index-alpha-k.result c.alpha_row-alpha.ensures.row c.index-alpha-k.is hk in
    let b = dual_read g.N.Number.value g.N.Number.limits.dual m (in_layers m D.beta l i) c.beta_row-beta.result.now k c.index-beta-k.result c.beta_row-beta.ensures.row c.index-beta-k.is hk in
    omega (arith, ints, a.1, b.1, (roomy g.N.Number.limits g.met.N.Number.enough).dual)

pub left_of-left-requires-clause-own : goal.left_of-left-requires-clause-own
left_of-left-requires-clause-own g c =
    let D = c.args.duals.now in
    let m = length D.facilities in
    let i = c.args.pair.now.0 in
    let j = c.args.pair.now.1 in
    let l = c.args.pair.now.2 in
    let k = c.loop-k.k in
    let hk : k < m = omega (arith, c.free-m.ensures.value, c.loop-k-test.true) in
    let a = dual_read g.N.Number.value g.N.Number.limits.dual m (in_layers m D.alpha j i) c.alpha_row-alpha.result.now k c.index-alpha-k.result c.alpha_row-alpha.ensures.row c.index-alpha-k.is hk in
    let b = dual_read g.N.Number.value g.N.Number.limits.dual m (in_layers m D.beta l i) c.beta_row-beta.result.now k c.index-beta-k.result c.beta_row-beta.ensures.row c.index-beta-k.is hk in
    omega (arith, ints, a.1, b.1, c.plus.ensures)

pub plus-requires-in-loop-k : goal.plus-requires-in-loop-k
plus-requires-in-loop-k g c =
    let D = c.args.duals.now in
    let m = length D.facilities in
    let j = c.args.pair.now.1 in
    let l = c.args.pair.now.2 in
    let columns = c.args.columns.now in
    let k = c.loop-k.k in
    let hk : k < m = omega (arith, c.free-m.ensures.value, c.loop-k-test.true) in
    let hc : k < length columns = omega (arith, hk, c.requires.columns.count) in
    let shared_own : IsDualRow g.N.Number.limits.dual (length columns) (beta_along D columns j l) (map g.N.Number.value c.deref-owns.result.now) = subst (λ (xs : List g.row.N.Denot). IsDualRow g.N.Number.limits.dual (length columns) (beta_along D columns j l) (map g.N.Number.value xs)) (sym c.deref-owns.ensures.value) c.requires.own in
    let o = dual_read g.N.Number.value g.N.Number.limits.dual (length columns) (beta_along D columns j l) c.deref-owns.result.now k c.index-owns-k.result shared_own c.index-owns-k.is hc in
    omega (arith, ints, o.1, c.alpha-own.ensures.range, (roomy g.N.Number.limits g.met.N.Number.enough).dual)

pub left_of-left-requires-clause-other : goal.left_of-left-requires-clause-other
left_of-left-requires-clause-other g c =
    let D = c.args.duals.now in
    let m = length D.facilities in
    let j = c.args.pair.now.1 in
    let l = c.args.pair.now.2 in
    let columns = c.args.columns.now in
    let k = c.loop-k.k in
    let hk : k < m = omega (arith, c.free-m.ensures.value, c.loop-k-test.true) in
    let hc : k < length columns = omega (arith, hk, c.requires.columns.count) in
    let shared_own : IsDualRow g.N.Number.limits.dual (length columns) (beta_along D columns j l) (map g.N.Number.value c.deref-owns.result.now) = subst (λ (xs : List g.row.N.Denot). IsDualRow g.N.Number.limits.dual (length columns) (beta_along D columns j l) (map g.N.Number.value xs)) (sym c.deref-owns.ensures.value) c.requires.own in
    let o = dual_read g.N.Number.value g.N.Number.limits.dual (length columns) (beta_along D columns j l) c.deref-owns.result.now k c.index-owns-k.result shared_own c.index-owns-k.is hc in
    omega (arith, ints, o.1, c.alpha-own.ensures.range, c.plus-in-loop-k.ensures)

pub left_of-left-requires-clause-there : goal.left_of-left-requires-clause-there
left_of-left-requires-clause-there g c =
    let I = c.args.instance.now in
    let D = c.args.duals.now in
    let m = length D.facilities in
    let l = c.args.pair.now.2 in
    let columns = c.args.columns.now in
    let k = c.loop-k.k in
    let f = c.facility-facility.result in
    let e = c.facility-other.result in
    let from = get_or D.locations k 0 in
    let to = get_or D.locations l 0 in
    let duals = c.alpha_row-alpha.ensures.duals in
    let hk : k < m = omega (arith, c.free-m.ensures.value, c.loop-k-test.true) in
    let hc : k < length columns = omega (arith, hk, c.requires.columns.count) in
    let hf : f < I.size = omega (arith, c.requires.size, c.facility-facility.ensures.within) in
    let he : e < I.size = omega (arith, c.requires.size, c.facility-other.ensures.within) in
    let hfrom : from < I.size = omega (arith, c.requires.size, duals.locations k (omega (arith, hk, duals.same_count))) in
    let hto : to < I.size = omega (arith, c.requires.size, duals.locations l (omega (arith, c.requires.l_in, duals.same_count))) in
    let a_there = scaled_entry-read D.scale c.scale.result c.scaled_entry-a_there.result c.a.result (entry I.size I.a f e) c.scaled_entry-a_there.ensures c.scale.ensures.value c.scale.ensures.duals.scale c.a.ensures.value c.a.ensures.range in
    let row_there : IsDualRow (10 ^ 9) (length columns) (entry_to I D columns l) c.deref-there.result.now = subst (IsDualRow (10 ^ 9) (length columns) (entry_to I D columns l)) (sym c.deref-there.ensures.value) c.requires.there in
    let distance = reads_entry (get_or c.deref-there.result.now k (pos 0)) (row_there.range.each k (omega (arith, hc, row_there.count))) ∙ row_there.entries k hc
    ∙ ap (λ (n : ℕ). entry I.size I.b (get_or D.locations n 0) to) (c.requires.columns.each k hk) in
    part-within g.N.Number.limits I D.scale f e from to _ _ c.requires.in_scale hf he hfrom hto a_there distance

pub left_of-left-requires-clause-back : goal.left_of-left-requires-clause-back
left_of-left-requires-clause-back g c =
    let I = c.args.instance.now in
    let D = c.args.duals.now in
    let m = length D.facilities in
    let l = c.args.pair.now.2 in
    let columns = c.args.columns.now in
    let k = c.loop-k.k in
    let f = c.facility-facility.result in
    let e = c.facility-other.result in
    let from = get_or D.locations k 0 in
    let to = get_or D.locations l 0 in
    let duals = c.alpha_row-alpha.ensures.duals in
    let hk : k < m = omega (arith, c.free-m.ensures.value, c.loop-k-test.true) in
    let hc : k < length columns = omega (arith, hk, c.requires.columns.count) in
    let hf : f < I.size = omega (arith, c.requires.size, c.facility-facility.ensures.within) in
    let he : e < I.size = omega (arith, c.requires.size, c.facility-other.ensures.within) in
    let hfrom : from < I.size = omega (arith, c.requires.size, duals.locations k (omega (arith, hk, duals.same_count))) in
    let hto : to < I.size = omega (arith, c.requires.size, duals.locations l (omega (arith, c.requires.l_in, duals.same_count))) in
    let a_back = scaled_entry-read D.scale c.scale-2.result c.scaled_entry-a_back.result c.a-2.result (entry I.size I.a e f) c.scaled_entry-a_back.ensures c.scale-2.ensures.value c.scale-2.ensures.duals.scale c.a-2.ensures.value c.a-2.ensures.range in
    let row_back : IsDualRow (10 ^ 9) (length columns) (entry_from I D columns l) c.deref-back.result.now = subst (IsDualRow (10 ^ 9) (length columns) (entry_from I D columns l)) (sym c.deref-back.ensures.value) c.requires.back in
    let distance = reads_entry (get_or c.deref-back.result.now k (pos 0)) (row_back.range.each k (omega (arith, hc, row_back.count))) ∙ row_back.entries k hc
    ∙ ap (λ (n : ℕ). entry I.size I.b to (get_or D.locations n 0)) (c.requires.columns.each k hk) in
    part-within g.N.Number.limits I D.scale e f to from _ _ c.requires.in_scale he hf hto hfrom a_back distance

pub loop-k-preserved : goal.loop-k-preserved
loop-k-preserved g c =
    let value = g.N.Number.value in
    let I = c.args.instance.now in
    let D = c.args.duals.now in
    let m = length D.facilities in
    let i = c.args.pair.now.0 in
    let j = c.args.pair.now.1 in
    let l = c.args.pair.now.2 in
    let columns = c.args.columns.now in
    let k = c.loop-k.k in
    let f = c.facility-facility.result in
    let e = c.facility-other.result in
    let from = get_or D.locations k 0 in
    let to = get_or D.locations l 0 in
    let same : c.free-m.result ≡ m = c.free-m.ensures.value in
    let hk : k < m = omega (arith, same, c.loop-k-test.true) in
    let hc : k < length columns = omega (arith, hk, c.requires.columns.count) in
    let is_first : get_or columns k 0 ≡ k = c.requires.columns.each k hk in
    let a = dual_read value g.N.Number.limits.dual m (in_layers m D.alpha j i) c.alpha_row-alpha.result.now k c.index-alpha-k.result c.alpha_row-alpha.ensures.row c.index-alpha-k.is hk in
    let b = dual_read value g.N.Number.limits.dual m (in_layers m D.beta l i) c.beta_row-beta.result.now k c.index-beta-k.result c.beta_row-beta.ensures.row c.index-beta-k.is hk in
    let shared_own : IsDualRow g.N.Number.limits.dual (length columns) (beta_along D columns j l) (map value c.deref-owns.result.now) = subst (λ (xs : List g.row.N.Denot). IsDualRow g.N.Number.limits.dual (length columns) (beta_along D columns j l) (map value xs)) (sym c.deref-owns.ensures.value) c.requires.own in
    let o = dual_read value g.N.Number.limits.dual (length columns) (beta_along D columns j l) c.deref-owns.result.now k c.index-owns-k.result shared_own c.index-owns-k.is hc in
    let a_there = scaled_entry-read D.scale c.scale.result c.scaled_entry-a_there.result c.a.result (entry I.size I.a f e) c.scaled_entry-a_there.ensures c.scale.ensures.value c.scale.ensures.duals.scale c.a.ensures.value c.a.ensures.range in
    let row_there : IsDualRow (10 ^ 9) (length columns) (entry_to I D columns l) c.deref-there.result.now = subst (IsDualRow (10 ^ 9) (length columns) (entry_to I D columns l)) (sym c.deref-there.ensures.value) c.requires.there in
    let there = reads_entry (get_or c.deref-there.result.now k (pos 0)) (row_there.range.each k (omega (arith, hc, row_there.count))) ∙ row_there.entries k hc
    ∙ ap (λ (n : ℕ). entry I.size I.b (get_or D.locations n 0) to) is_first in
    let a_back = scaled_entry-read D.scale c.scale-2.result c.scaled_entry-a_back.result c.a-2.result (entry I.size I.a e f) c.scaled_entry-a_back.ensures c.scale-2.ensures.value c.scale-2.ensures.duals.scale c.a-2.ensures.value c.a-2.ensures.range in
    let row_back : IsDualRow (10 ^ 9) (length columns) (entry_from I D columns l) c.deref-back.result.now = subst (IsDualRow (10 ^ 9) (length columns) (entry_from I D columns l)) (sym c.deref-back.ensures.value) c.requires.back in
    let back = reads_entry (get_or c.deref-back.result.now k (pos 0)) (row_back.range.each k (omega (arith, hc, row_back.count))) ∙ row_back.entries k hc
    ∙ ap (λ (n : ℕ). entry I.size I.b to (get_or D.locations n 0)) is_first in
    let left : value c.left_of-left.result ≡ residual I D i k j l =
    residual-from_parts I D i k j l f from e to _ _ _ _ _ _ (value c.left_of-left.result)
    c.facility-facility.ensures.value refl c.facility-other.ensures.value refl a_there there a_back back
    (c.plus.ensures ∙ ap₂ ◌+ℤ◌ a.0 b.0) (c.plus-in-loop-k.ensures ∙ ap₂ ◌+ℤ◌ c.alpha-own.ensures.value (o.0 ∙ ap (beta_of D j l) is_first)) c.left_of-left.ensures.value in
    let row = kept_row m i j l in
    let place : c.start_of_row-start.result + k ≡ row * m + k = ap (λ (n : ℕ). n + k) (c.start_of_row-start.ensures.value ∙ ap (λ n. kept_row n i j l * n) same) in
    let written = c.put.ensures ∙ ap (λ (n : ℕ). set c.loop-k.table n c.left_of-left.result) place in
    let inside = row_in_table m i j l c.requires.i_in c.requires.j_in c.requires.l_in in
    let count : length (map value c.loop-k.table) ≡ cube m * m = c.loop-k.invariant.same_length ∙ length-map c.args.table.now value ∙ c.requires.room in
    subst (λ (xs : List g.row.N.Denot). FillsPart m (λ _ y. residual I D i y j l) row (k + 1) (map value c.args.table.now) (map value xs)) (sym written)
    (rw (map-set value c.loop-k.table (row * m + k) c.left_of-left.result)
    (FillsPart-more m (λ _ y. residual I D i y j l) row k (map value c.args.table.now) (map value c.loop-k.table) (value c.left_of-left.result) c.loop-k.invariant (omega (arith, inside, count, hk)) left))

pub returns : goal.returns
returns g c =
    let value = g.N.Number.value in
    let D = c.args.duals.now in
    let m = length D.facilities in
    let i = c.args.pair.now.0 in
    let j = c.args.pair.now.1 in
    let l = c.args.pair.now.2 in
    let all : c.loop-k.k ≡ m = omega (arith, c.free-m.ensures.value) in
    subst (λ (n : ℕ). FillsPart m (λ _ y. residual c.args.instance.now D i y j l) (kept_row m i j l) n (map value c.args.table.now) (map value c.loop-k.table)) all c.loop-k.invariant
