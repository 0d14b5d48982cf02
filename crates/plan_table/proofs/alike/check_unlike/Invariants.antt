use Rattle.std.proofs.Common.{◌≢◌, ◌<◌, ℕ, [], get_or, map}
use Rattle.plan_table.proofs.alike.check_unlike.Given as goal

abbrev pub invariant-loop-k : goal.invariant-loop-k
invariant-loop-k l = (i j : ℕ) → i < j → j < l.k → get_or (map (λ key. key.items) l.keys.items) i [] ≢ get_or (map (λ key. key.items) l.keys.items) j []
