use Rattle.std.proofs.Common.{◌≡◌, map, string_bytes, take}
use Rattle.toml.specs.View.{items_view}
use Rattle.plan_file.specs.Keys.{strings_of}
use Rattle.plan_file.proofs.choosing.places_of.Given as goal

abbrev pub invariant-loop-i : goal.invariant-loop-i
invariant-loop-i l = items_view (take l.i l.items) ≡ strings_of (map string_bytes l.places.items)
