use Rattle.std.proofs.Common.{◌<◌, List, ap, arith, length, map, refl}
use Rattle.std.specs.String.{string_bytes}
use Rattle.std.proofs.lemmas.List.{length-map}
use Rattle.csv.specs.Records.{fields_of}
use Rattle.plan_table.specs.declared.decimal.Decimal.{Decimal}
use Rattle.plan_table.proofs.RowLists.{AreRows-there}
use Rattle.plan_table.proofs.Shapes.{grid_of}
use Rattle.plan_table.proofs.grid.read_cells.Goals as goal

pub too_large-requires-clause-there : goal.too_large-requires-clause-there
too_large-requires-clause-there c =
    let rows = c.args.rows.now in
    let columns = c.args.columns.now in
    let decimals = c.in_ok-decimals.decimals.items in
    let i = c.in-Err-TooLarge.i in
    let some : 0 < length columns = omega (arith, c.requires.columns.positive, length-map columns string_bytes) in
    let fault = rw c.in-Err-TooLarge.field-0-is at c.in-Err-TooLarge.ensures in
    let inside : i < length decimals = omega (arith, fault.0, ap (λ (l : List Decimal). length l) c.deref-2.ensures.value) in
    let there = AreRows-there _ (length columns) (map string_bytes rows) (map fields_of c.args.below.now) decimals i c.in_ok-decimals.ensures some inside in
    omega (arith, there, length-map rows string_bytes)

pub returns-in-Ok-clause-shape : goal.returns-in-Ok-clause-shape
returns-in-Ok-clause-shape c =
    grid_of _ string_bytes c.args.rows.now c.args.columns.now (length c.args.columns.now) (map fields_of c.args.below.now) c.in_ok-decimals.decimals.items c.deref-2.result.now _ c.in-Ok.entries.items refl c.deref-2.ensures.value c.requires.rows c.requires.columns c.in_ok-decimals.ensures c.in-Ok.ensures
