use Rattle.std.proofs.Common.{◌<◌, ℕ, [], get_or, map}
use Rattle.std.specs.String.{string_bytes}
use Rattle.plan_table.specs.Names.{HasName}
use Rattle.plan_table.proofs.grid.first_other.Given as goal

abbrev pub invariant-loop-k : goal.invariant-loop-k
invariant-loop-k l = (j : ℕ) → j < l.k → HasName (map string_bytes l.others) (get_or (map string_bytes l.names) j [])
