-- How many items there are up to the last of which something holds.
use Rattle.std.specs.Prelude.{◌≡◌, ℕ, ◌+◌, ◌<◌, ◌≤◌}

-- of all items the last of which it holds is the one before this number; it holds of none if the number is 0
pub record IsUpToLast (Holds : ℕ → Type 0) (all count : ℕ) : Type 0 where
  pub within : count ≤ all
  pub last : (i : ℕ) → count ≡ i + 1 → Holds i
  pub rest : (i : ℕ) → count ≤ i → i < all → Holds i → ⊥
