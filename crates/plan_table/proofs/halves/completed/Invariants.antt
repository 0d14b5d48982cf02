use Rattle.std.proofs.Common.{◌≡◌, ◌<◌, ℕ, length, map}
use Rattle.std.specs.String.{string_bytes}
use Rattle.csv.specs.Records.{fields_of}
use Rattle.plan_table.specs.Halves.{IsCompleted}
use Rattle.plan_table.specs.Trips.{row_at}
use Rattle.plan_table.proofs.halves.completed.Given as goal

abbrev pub invariant-loop-row : goal.invariant-loop-row
invariant-loop-row l = record {
  many : length l.filled.items ≡ l.row-index;
  each : (k : ℕ) → k < l.row-index → IsCompleted (map string_bytes l.names) (map fields_of l.rows) (row_at (map fields_of l.rows) k) (row_at (map fields_of l.filled.items) k);
}
