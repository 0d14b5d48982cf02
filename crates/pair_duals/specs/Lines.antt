-- Single steps of subtracting the minima of a matrix.
use Rattle.std.specs.Prelude.{◌≡◌, ℕ, ◌+◌, ◌<◌, List, length, ℤ, pos, ◌-ℤ◌, ◌≤ℤ◌, ◌⊎◌, slice_index_or}
use Rattle.pair_duals.specs.Reduced.{IsLeast, less_row}

-- the entries from a position on, less a number
pub record TakesRow (entries : List ℤ) (own : ℤ) (least : List ℤ) : Type 0 where
  pub each : (c : ℕ) → c < length least → slice_index_or least c (pos 0) ≡ slice_index_or entries c (pos 0) -ℤ own

-- the smaller of two numbers
pub record IsSmaller (x y least : ℤ) : Type 0 where
  pub first : least ≤ℤ x
  pub second : least ≤ℤ y
  pub one : (least ≡ x) ⊎ (least ≡ y)

-- each number, or the entry from a position on less a number if that is smaller
pub record LowersBy (entries : List ℤ) (start : ℕ) (own : ℤ) (old new : List ℤ) : Type 0 where
  pub same_length : length new ≡ length old
  pub each : (c : ℕ) → c < length old → IsSmaller (slice_index_or old c (pos 0)) (slice_index_or entries (start + c) (pos 0) -ℤ own) (slice_index_or new c (pos 0))

-- the column minima of the first rows, this many
pub record AreLeastSoFar (m : ℕ) (entries u : List ℤ) (rows : ℕ) (v : List ℤ) : Type 0 where
  pub count : length v ≡ m
  pub least : (c : ℕ) → c < m → IsLeast (less_row m entries u c) rows (slice_index_or v c (pos 0))
