use Rattle.std.proofs.Common.{◌≡◌, ◌+◌, ◌*◌, ◌-◌, ◌≤◌, length, get_or, map, arith, ap, ◌∙◌}
use Rattle.std.specs.Prelude.{pos}
use Rattle.std.proofs.lemmas.List.{length-map}
use Rattle.pair_duals.specs.Kept.{kept_row}
use Rattle.pair_duals.specs.PairDuals.{cube, residual}
use Rattle.pair_duals.proofs.DualRows.{IsDualRow-taken_small}
use Rattle.pair_duals.proofs.KeptRows.{kept_row-within}
use Rattle.pair_duals.proofs.Widths.{residual-within}
use Rattle.pair_duals.proofs.kept.row_of_table.Goals as goal

pub slice_bounds-result-end : goal.slice_bounds-result-end
slice_bounds-result-end g c =
    let m = length c.args.duals.now.facilities in
    let same : c.free-m.result ≡ m = c.free-m.ensures.value in
    let square : cube c.free-m.result * c.free-m.result ≡ cube m * m = ap (λ n. cube n * n) same in
    omega (arith, c.start_of_row-start.ensures.within, square, c.requires.kept.count, length-map c.args.table.now g.N.Number.value)

pub offset_bounds-table-start : goal.offset_bounds-table-start
offset_bounds-table-start g c = let below = slice_bounds-result-end g c in omega (arith, below)

pub overflow_add-result : goal.overflow_add-result
overflow_add-result g c = omega (arith, c.start_of_row-start.ensures.within, c.start_of_row-start.ensures.small)

pub returns : goal.returns
returns g c =
    let value = g.N.Number.value in
    let I = c.args.instance.now in
    let D = c.args.duals.now in
    let m = length D.facilities in
    let i = c.args.pair.now.0 in
    let j = c.args.pair.now.1 in
    let l = c.args.pair.now.2 in
    let start = c.start_of_row-start.result in
    let d = c.free-m.ensures.duals in
    let same : c.free-m.result ≡ m = c.free-m.ensures.value in
    let place : start ≡ kept_row m i j l * m = c.start_of_row-start.ensures.value ∙ ap (λ n. kept_row n i j l * n) same in
    let square : cube c.free-m.result * c.free-m.result ≡ cube m * m = ap (λ n. cube n * n) same in
    let inside : start + c.free-m.result ≤ length c.args.table.now = omega (arith, c.start_of_row-start.ensures.within, square, c.requires.kept.count, length-map c.args.table.now value) in
    IsDualRow-taken_small value g.N.Number.limits.pair m start (start + c.free-m.result - start) c.args.table.now (λ k. residual I D i k j l) (omega (arith, same)) (omega (arith, same, inside))
    (λ k hk. ap (λ n. get_or (map value c.args.table.now) (n + k) (pos 0)) place ∙ c.requires.kept.each i k j l c.requires.i_in hk c.requires.j_in c.requires.l_in (kept_row-within m i j l c.requires.i_in c.requires.j_in c.requires.l_in))
    (λ k hk. residual-within g.N.Number.limits I D i k j l g.met.N.Number.enough d c.requires.in_scale c.requires.size c.requires.i_in (omega (arith, hk, d.same_count)) c.requires.j_in (omega (arith, c.requires.l_in, d.same_count)))
