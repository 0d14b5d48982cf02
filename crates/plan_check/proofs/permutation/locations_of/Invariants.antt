use Rattle.std.proofs.Common.{◌≡◌, ◌+◌, ◌<◌, ◌≤◌, ℕ, get_or, map, take}
use Rattle.plan_check.proofs.permutation.locations_of.Given as goal

abbrev pub invariant-loop-i : goal.invariant-loop-i
invariant-loop-i l = record {
  listed : take l.i l.numbers ≡ map (λ k. k + 1) l.locations.items;
  within : (k : ℕ) → k < l.i → get_or l.numbers k 0 ≤ l.size;
}
