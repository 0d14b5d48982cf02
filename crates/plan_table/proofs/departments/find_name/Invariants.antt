use Rattle.std.proofs.Common.{◌≡◌, ◌<◌, ℕ, [], get_or, map}
use Rattle.std.specs.String.{string_bytes}
use Rattle.plan_table.proofs.departments.find_name.Given as goal

abbrev pub invariant-loop-i : goal.invariant-loop-i
invariant-loop-i l = (k : ℕ) → k < l.i → get_or (map string_bytes l.names) k [] ≡ l.name → ⊥
