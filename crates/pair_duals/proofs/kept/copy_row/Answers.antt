use Rattle.std.proofs.Common.{◌≡◌, ◌*◌, ◌+◌, ◌<◌, ℕ, length, get_or, map, set, arith, ap, sym, subst, ◌∙◌, List}
use Rattle.std.specs.Prelude.{pos}
use Rattle.std.proofs.lemmas.List.{length-map, map-set}
use Rattle.qap_cost.specs.Instance.{entry}
use Rattle.pair_duals.specs.Filling.{FillsPart}
use Rattle.pair_duals.specs.Kept.{kept_row}
use Rattle.pair_duals.specs.PairDuals.{cube}
use Rattle.pair_duals.proofs.Fillings.{FillsPart-none, FillsPart-more}
use Rattle.pair_duals.proofs.KeptRows.{place_before, row_earlier, row_in_table}
use Rattle.pair_duals.proofs.Values.{value_read}
use Rattle.pair_duals.proofs.kept.copy_row.Goals as goal

pub loop-k-init : goal.loop-k-init
loop-k-init g c = FillsPart-none _ _ _ _

pub loop-k-preserved : goal.loop-k-preserved
loop-k-preserved g c =
    let value = g.N.Number.value in
    let m = c.args.m in
    let i = c.args.pair.now.0 in
    let j = c.args.pair.now.1 in
    let l = c.args.pair.now.2 in
    let k = c.loop-k.k in
    let old = map value c.args.table.now in
    let row = kept_row m i j l in
    let source = kept_row m j i k in
    let number = c.index-table-from.result in
    let hk : k < m = c.loop-k-test.true in
    let hi : i < m = omega (arith, c.requires.earlier, c.requires.j_in) in
    let from_is : c.start_of_row.result + l ≡ source * m + l = ap (λ (n : ℕ). n + l) c.start_of_row.ensures.value in
    let place : c.start_of_row-start.result + k ≡ row * m + k = ap (λ (n : ℕ). n + k) c.start_of_row-start.ensures.value in
    let count : length c.loop-k.table ≡ cube m * m = c.loop-k.auto.table ∙ c.requires.room in
    let within : c.start_of_row.result + l < length c.loop-k.table = omega (arith, c.start_of_row.ensures.within, c.requires.l_in, count) in
    let before = place_before m source row l (row_earlier m i j l k c.requires.earlier c.requires.j_in hk) c.requires.l_in in
    let is : value number ≡ entry m old source l =
    value_read value c.loop-k.table (c.start_of_row.result + l) number c.index-table-from.is within
    ∙ ap (λ (n : ℕ). get_or (map value c.loop-k.table) n (pos 0)) from_is
    ∙ c.loop-k.invariant.before (source * m + l) before in
    let written = c.put.ensures ∙ ap (λ (n : ℕ). set c.loop-k.table n number) place in
    let inside = row_in_table m i j l hi c.requires.j_in c.requires.l_in in
    let f = λ (_ y : ℕ). entry m old (kept_row m j i y) l in
    subst (λ (xs : List g.row.N.Denot). FillsPart m f row (k + 1) old (map value xs)) (sym written)
    (rw (map-set value c.loop-k.table (row * m + k) number)
    (FillsPart-more m f row k old (map value c.loop-k.table) (value number) c.loop-k.invariant (omega (arith, inside, count, hk, length-map c.loop-k.table value)) is))

pub returns : goal.returns
returns g c =
    let value = g.N.Number.value in
    let m = c.args.m in
    let old = map value c.args.table.now in
    let all : c.loop-k.k ≡ m = omega arith in
    subst (λ (n : ℕ). FillsPart m (λ _ y. entry m old (kept_row m c.args.pair.now.1 c.args.pair.now.0 y) c.args.pair.now.2) (kept_row m c.args.pair.now.0 c.args.pair.now.1 c.args.pair.now.2) n old (map value c.loop-k.table)) all c.loop-k.invariant
