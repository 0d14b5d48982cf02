-- The sign of numbers.
use Rattle.std.specs.Prelude.{ℕ, ◌<◌, List, length, ℤ, pos, ◌≤ℤ◌, slice_index_or}

-- no number of the list is positive
pub record NoneAbove (xs : List ℤ) : Type 0 where
  pub each : (k : ℕ) → k < length xs → slice_index_or xs k (pos 0) ≤ℤ pos 0
