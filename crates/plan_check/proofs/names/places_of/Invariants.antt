use Rattle.std.proofs.Common.{◌≡◌, map, take}
use Rattle.std.specs.Prelude.{string_bytes}
use Rattle.plan_check.specs.Names.{names_at, place_names}
use Rattle.plan_check.proofs.names.places_of.Given as goal

abbrev pub invariant-loop-i : goal.invariant-loop-i
invariant-loop-i l = map string_bytes l.places.items ≡ names_at (place_names l.problem) (take l.i l.locations)
