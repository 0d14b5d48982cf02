use Rattle.std.proofs.Common.{◌≡◌, List, ℕ, map, take}
use Rattle.std.specs.String.{string_bytes}
use Rattle.csv.specs.Records.{fields_of}
use Rattle.plan_table.specs.Table.{word_at}
use Rattle.plan_table.specs.declared.pin.Pin.{Pin}
use Rattle.plan_table.proofs.layout.pins_of.Given as goal

abbrev pub invariant-loop-row : goal.invariant-loop-row
invariant-loop-row l = record {
  departments : map (λ (p : Pin). string_bytes p.department) l.pins.items ≡ map (λ (fields : List (List ℕ)). word_at fields 0) (map fields_of (take l.row-index l.rows));
  places : map (λ (p : Pin). string_bytes p.place) l.pins.items ≡ map (λ (fields : List (List ℕ)). word_at fields 1) (map fields_of (take l.row-index l.rows));
}
