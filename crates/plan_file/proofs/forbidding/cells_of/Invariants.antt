use Rattle.std.proofs.Common.{false, length, map, string_bytes}
use Rattle.plan_file.specs.Charges.{IsBarCell}
use Rattle.plan_file.specs.Filled.{AreFilled}
use Rattle.plan_file.proofs.forbidding.cells_of.Given as goal

abbrev pub invariant-loop-q : goal.invariant-loop-q
invariant-loop-q l = AreFilled (IsBarCell l.charging (map string_bytes l.departments) (map string_bytes l.places)) false (length l.places) l.q l.cells.items
