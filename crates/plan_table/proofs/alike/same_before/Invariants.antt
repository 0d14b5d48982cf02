use Rattle.std.proofs.Common.{◌≢◌, ◌<◌, ℕ, [], get_or, map}
use Rattle.plan_table.proofs.alike.same_before.Given as goal

abbrev pub invariant-loop-j : goal.invariant-loop-j
invariant-loop-j l = (i : ℕ) → i < l.j → get_or (map (λ key. key.items) l.keys) i [] ≢ get_or (map (λ key. key.items) l.keys) l.k []
