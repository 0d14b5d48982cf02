use Rattle.std.proofs.Common.{◌<◌, ℕ, List, get_or, length, map, take}
use Rattle.std.specs.String.{string_bytes}
use Rattle.csv.specs.Records.{fields_of}
use Rattle.plan_table.specs.Table.{AreRows, in_order}
use Rattle.plan_table.proofs.rows.read_rows.Given as goal

abbrev pub invariant-loop-i : goal.invariant-loop-i
invariant-loop-i l = (order : List ℕ) × ((j : ℕ) → j < length order → get_or order j 0 < length (map fields_of l.rows))
    × AreRows l.reading 0 l.count (map string_bytes (take l.i l.names)) (in_order (map fields_of l.rows) order) l.decimals.items
