use Rattle.std.proofs.Common.{◌≡◌, ◌<◌, ℕ, [], get_or, length, map}
use Rattle.std.specs.String.{string_bytes}
use Rattle.csv.specs.Records.{fields_of}
use Rattle.plan_table.specs.Halves.{IsFilledIn}
use Rattle.plan_table.proofs.halves.completed_row.Given as goal

abbrev pub invariant-loop-field : goal.invariant-loop-field
invariant-loop-field l = record {
  many : length (fields_of l.filled) ≡ l.field;
  each : (f : ℕ) → f < l.field → IsFilledIn (map string_bytes l.names) (map fields_of l.rows) (fields_of l.row) f (get_or (fields_of l.filled) f []);
}
