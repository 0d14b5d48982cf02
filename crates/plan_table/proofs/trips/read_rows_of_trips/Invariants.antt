use Rattle.std.proofs.Common.{◌≡◌, ◌<◌, ℕ, length, map}
use Rattle.std.specs.String.{string_bytes}
use Rattle.csv.specs.Records.{fields_of}
use Rattle.plan_table.specs.Listing.{IsTripOf, trip_at}
use Rattle.plan_table.specs.Trips.{row_at}
use Rattle.plan_table.proofs.trips.read_rows_of_trips.Given as goal

abbrev pub invariant-loop-row : goal.invariant-loop-row
invariant-loop-row l = record {
  many : length l.trips.items ≡ l.row-index;
  each : (k : ℕ) → k < length l.trips.items → IsTripOf l.reading (map string_bytes l.names) (row_at (map fields_of l.rows) k) (trip_at l.trips.items k);
}
