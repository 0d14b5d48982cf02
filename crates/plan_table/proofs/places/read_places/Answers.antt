use Rattle.std.proofs.Common.{◌≡◌, ◌<◌, ◌∙◌, List, ap, arith, length, map, ℤ}
use Rattle.std.specs.String.{string_bytes}
use Rattle.std.proofs.lemmas.List.{length-map}
use Rattle.csv.specs.Records.{fields_of}
use Rattle.plan_table.specs.Scale.{scaled}
use Rattle.plan_table.specs.declared.decimal.Decimal.{Decimal}
use Rattle.plan_table.specs.declared.places.Point.{Point}
use Rattle.plan_table.proofs.Points.{points_of_rows, two_a_row}
use Rattle.plan_table.proofs.RowLists.{AreRows-there}
use Rattle.plan_table.proofs.places.read_places.Goals as goal

pub points_of-requires-clause-many : goal.points_of-requires-clause-many
points_of-requires-clause-many c =
    let names = c.in_ok-names.names.items in
    let read = rw c.deref-3.ensures.value at c.in_ok-decimals.ensures in
    let scaled_so = rw c.deref-5.ensures.value at c.in-Ok.ensures in
    let numbers : length c.in-Ok.entries.items ≡ length c.in_ok-decimals.decimals.items =
    ap (λ (l : List ℤ). length l) scaled_so.exact ∙ length-map c.in_ok-decimals.decimals.items (scaled c.least_scale-scale.result) in
    let rows = two_a_row _ (map string_bytes names) _ c.in_ok-decimals.decimals.items read in
    omega (arith, ap (λ (l : List ℤ). length l) c.deref-6.ensures.value, numbers, rows, length-map names string_bytes, c.len.ensures)

pub check_apart-requires : goal.check_apart-requires
check_apart-requires c =
    let names = c.in_ok-names.names.items in
    let read = rw c.deref-3.ensures.value at c.in_ok-decimals.ensures in
    let scaled_so = rw c.deref-5.ensures.value at c.in-Ok.ensures in
    let entries = c.in_ok-points.ensures ∙ c.deref-6.ensures.value in
    let all = points_of_rows _ _ _ c.in_ok-decimals.decimals.items c.least_scale-scale.result c.in_ok-points.points.items c.in_ok-names.ensures read (rw entries scaled_so) in
    omega (arith, all.many, length-map names string_bytes, ap length c.deref-7.ensures.value, ap (λ (l : List Point). length l) c.deref-8.ensures.value)

pub returns-clause-points : goal.returns-clause-points
returns-clause-points c =
    let read = rw c.deref-3.ensures.value at c.in_ok-decimals.ensures in
    let scaled_so = rw c.deref-5.ensures.value at c.in-Ok.ensures in
    let entries = c.in_ok-points.ensures ∙ c.deref-6.ensures.value in
    points_of_rows _ _ _ c.in_ok-decimals.decimals.items c.least_scale-scale.result c.in_ok-points.points.items c.in_ok-names.ensures read (rw entries scaled_so)

pub too_large-requires-clause-there : goal.too_large-requires-clause-there
too_large-requires-clause-there c =
    let names = c.deref-3.result.now in
    let decimals = c.in_ok-decimals.decimals.items in
    let i = c.in-Err-TooLarge.i in
    let fault = rw c.in-Err-TooLarge.field-0-is at c.in-Err-TooLarge.ensures in
    let below : i < length decimals = omega (arith, fault.0, ap (λ (l : List Decimal). length l) c.deref-5.ensures.value) in
    let there = AreRows-there _ 2 (map string_bytes names) (map fields_of c.in-Some.rows.now) decimals i c.in_ok-decimals.ensures (omega arith) below in
    let same = ap length c.deref-3.ensures.value in
    let again = ap length c.deref-in-Err-TooLarge.ensures.value in
    omega (arith, there, length-map names string_bytes, same, again)
