use Rattle.std.proofs.Common.{◌≡◌, ◌<◌, ℕ, [], get_or, map}
use Rattle.std.specs.String.{string_bytes}
use Rattle.plan_table.proofs.names.has_name.Given as goal

abbrev pub invariant-loop-other : goal.invariant-loop-other
invariant-loop-other l = (k : ℕ) → k < l.other-index → get_or (map string_bytes l.names) k [] ≡ l.name → ⊥
