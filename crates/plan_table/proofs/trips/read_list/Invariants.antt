use Rattle.std.proofs.Common.{◌≡◌, List, ℕ, map, take}
use Rattle.csv.specs.Records.{fields_of}
use Rattle.plan_table.proofs.trips.read_list.Given as goal

abbrev pub invariant-loop-row : goal.invariant-loop-row
invariant-loop-row l = map fields_of l.rows.items ≡ map (λ (fields : List (List ℕ)). take 3 fields) (map fields_of (take l.row-index l.below))
