use Rattle.std.proofs.Common.{◌≡◌, length, map, string_bytes, take}
use Rattle.toml.specs.View.{items_view}
use Rattle.plan_table.specs.Names.{AreDifferent}
use Rattle.plan_file.specs.Keys.{strings_of}
use Rattle.plan_file.proofs.names.names_of.Given as goal

abbrev pub invariant-loop-i : goal.invariant-loop-i
invariant-loop-i l = record {
  many : length l.names.items ≡ l.i;
  items : items_view (take l.i l.items) ≡ strings_of (map string_bytes l.names.items);
  different : AreDifferent (map string_bytes l.names.items);
}
