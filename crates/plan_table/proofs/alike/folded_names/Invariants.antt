use Rattle.std.proofs.Common.{◌≡◌, map, take}
use Rattle.std.specs.String.{string_bytes}
use Rattle.plan_table.specs.Alike.{folded}
use Rattle.plan_table.proofs.alike.folded_names.Given as goal

abbrev pub invariant-loop-name : goal.invariant-loop-name
invariant-loop-name l = map (λ key. key.items) l.keys.items ≡ map (λ name. folded (string_bytes name)) (take l.name-index l.names)
