use Rattle.std.proofs.Common.{◌≡◌, ◌≤◌, take}
use Rattle.csv.specs.Records.{fields_of}
use Rattle.plan_table.specs.Tidy.{filled_front}
use Rattle.plan_table.proofs.records.filled_fields.Given as goal

abbrev pub invariant-loop-i : goal.invariant-loop-i
invariant-loop-i l = record {
  so_far : take l.filled (fields_of l.row) ≡ filled_front (take l.i (fields_of l.row));
  inside : l.filled ≤ l.i;
}
