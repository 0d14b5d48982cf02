use Rattle.std.proofs.Common.{length, map, pos, string_bytes}
use Rattle.plan_file.specs.Charges.{IsCostCell}
use Rattle.plan_file.specs.Filled.{AreFilled}
use Rattle.plan_file.proofs.charges.entries_of.Given as goal

abbrev pub invariant-loop-q : goal.invariant-loop-q
invariant-loop-q l =
    AreFilled (IsCostCell (map string_bytes l.grid.rows.items) (map string_bytes l.grid.columns.items) l.grid.entries.items (map string_bytes l.departments) (map string_bytes l.places)) (pos 0) (length l.places) l.q l.entries.items
