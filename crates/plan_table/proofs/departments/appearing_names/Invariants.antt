use Rattle.std.proofs.Common.{◌≤◌, length, map, take}
use Rattle.std.specs.String.{string_bytes}
use Rattle.csv.specs.Records.{fields_of}
use Rattle.plan_table.specs.Names.{AreDifferent, max_names}
use Rattle.plan_table.specs.Numbers.{AreNumbers}
use Rattle.plan_table.specs.Trips.{AppearInOrder, words_of}
use Rattle.plan_table.proofs.departments.appearing_names.Given as goal

abbrev pub invariant-loop-row : goal.invariant-loop-row
invariant-loop-row l = record {
  few : length l.names.items ≤ max_names;
  different : AreDifferent (map string_bytes l.names.items);
  numbered : AreNumbers l.numbers (map string_bytes l.names.items);
  order : AppearInOrder (words_of (take l.row-index (map fields_of l.rows))) (map string_bytes l.names.items);
}
