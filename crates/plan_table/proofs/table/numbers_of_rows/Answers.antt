use Rattle.std.proofs.Common.{◌<◌, List, ap, arith, length, map, refl}
use Rattle.std.specs.String.{string_bytes}
use Rattle.std.proofs.lemmas.List.{length-map}
use Rattle.csv.specs.Records.{fields_of}
use Rattle.plan_table.specs.declared.decimal.Decimal.{Decimal}
use Rattle.plan_table.proofs.RowLists.{AreRows-there}
use Rattle.plan_table.proofs.Shapes.{square_of}
use Rattle.plan_table.proofs.table.numbers_of_rows.Goals as goal

pub too_large-requires-clause-there : goal.too_large-requires-clause-there
too_large-requires-clause-there c =
    let names = c.args.names.now in
    let rows = c.args.rows.now in
    let decimals = c.in_ok-decimals.decimals.items in
    let i = c.in-Err-TooLarge.i in
    let own = length-map names string_bytes in
    let named : 0 < length names = omega (arith, c.requires.positive, own) in
    let fault = rw c.in-Err-TooLarge.field-0-is at c.in-Err-TooLarge.ensures in
    let below : i < length decimals = omega (arith, fault.0, ap (λ (l : List Decimal). length l) c.deref-2.ensures.value) in
    let there = AreRows-there _ (length names) (map string_bytes names) (map fields_of rows) decimals i c.in_ok-decimals.ensures named below in
    omega (arith, there, own)

pub returns-in-Ok-clause-square : goal.returns-in-Ok-clause-square
returns-in-Ok-clause-square c =
    square_of _ string_bytes c.args.names.now c.args.names.now (length c.args.names.now) (map fields_of c.args.rows.now) c.in_ok-decimals.decimals.items c.deref-2.result.now _ c.in-Ok.entries.items refl refl c.deref-2.ensures.value c.requires c.in_ok-decimals.ensures c.in-Ok.ensures
