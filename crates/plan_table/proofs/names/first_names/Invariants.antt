use Rattle.std.proofs.Common.{◌≡◌, length, map}
use Rattle.std.specs.String.{string_bytes}
use Rattle.plan_table.specs.Names.{AreDifferent}
use Rattle.plan_table.proofs.names.first_names.Given as goal

abbrev pub invariant-loop-row : goal.invariant-loop-row
invariant-loop-row l = record {
  many : length l.names.items ≡ l.row-index;
  different : AreDifferent (map string_bytes l.names.items);
}
