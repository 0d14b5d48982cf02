use Rattle.std.proofs.Common.{◌≡◌, ◌++◌, ◌∷◌, ◌≤◌, ◌∙◌, [], ap, arith, get_or, length, map, refl, sym, take}
use Rattle.std.specs.String.{string_bytes}
use Rattle.std.proofs.lemmas.List.{get_or-map, length-map, length-take-le}
use Rattle.csv.specs.Records.{field_at, fields_of}
use Rattle.std.proofs.Common.{Some}
use Rattle.plan_table.proofs.RowLists.{AreRows-more, inside_more}
use Rattle.plan_table.proofs.rows.read_rows.Goals as goal

pub loop-i-init : goal.loop-i-init
loop-i-init c = rw c.new-decimals.ensures.items ([], (λ j below. absurd (omega arith)), refl)

pub loop-i-preserved : goal.loop-i-preserved
loop-i-preserved c =
    let (order, inside, read) = c.loop-i.invariant in
    let rows = map fields_of c.args.rows.now in
    let i = c.loop-i.i in
    let k = c.in-Some.k in
    let row = c.index-rows-k.result in
    let name = c.index-names-i.result in
    let (there, begins) = c.in-Some.ensures in
    let here : get_or rows k [] ≡ fields_of row = get_or-map fields_of c.args.rows.now k row [] there ∙ ap fields_of (sym c.index-rows-k.is) in
    let named : field_at (fields_of row) 0 ≡ Some (string_bytes name) =
    ap (λ f. field_at f 0) (sym here) ∙ begins ∙ ap Some c.as_str.ensures.value in
    let (numbers, is_row, pushed) = c.in_ok-read_row.ensures (string_bytes name) named in
    let shorter : i ≤ length c.args.names.now = omega (arith, c.loop-i-test.true) in
    let long : length (map string_bytes (take i c.args.names.now)) ≡ i = length-map (take i c.args.names.now) string_bytes ∙ length-take-le i c.args.names.now shorter in
    let many = length-map c.args.rows.now fields_of in (
      order ++ k ∷ [],
      inside_more order k (length rows) inside (omega (arith, there, many)),
      AreRows-more c.args.reading c.args.count string_bytes c.args.names.now rows order i k name (fields_of row) c.loop-i.decimals.items numbers _ c.loop-i-test.true c.index-names-i.is here long read is_row pushed,
    )
