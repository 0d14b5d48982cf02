use Rattle.std.proofs.Common.{◌≡◌, ◌∷◌, List, ℕ, map, take}
use Rattle.std.specs.String.{string_bytes}
use Rattle.csv.specs.Records.{fields_of}
use Rattle.plan_table.specs.Names.{AreDifferent}
use Rattle.plan_table.proofs.names.read_names.Given as goal

abbrev pub invariant-loop-column : goal.invariant-loop-column
invariant-loop-column l = record {
  different : AreDifferent (map string_bytes l.names.items);
  read : (corner : List ℕ) × (take l.column (fields_of l.head) ≡ corner ∷ map string_bytes l.names.items);
}
