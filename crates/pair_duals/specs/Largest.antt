-- The greatest absolute value of a matrix.
use Rattle.std.specs.Prelude.{◌≡◌, ℕ, ◌<◌, ◌≤◌, ◌^◌, ◌⊎◌, List, length, ℤ, pos, slice_index_or, unsigned_abs}
use Rattle.qap_cost.specs.Instance.{entry}

-- of an n by n matrix that is listed by rows
pub record IsLargest (n : ℕ) (matrix : List ℤ) (largest : ℕ) : Type 0 where
  pub above : (i j : ℕ) → i < n → j < n → unsigned_abs (entry n matrix i j) ≤ largest
  pub reached : (i : ℕ) × (j : ℕ) × (i < n) × (j < n) × (largest ≡ unsigned_abs (entry n matrix i j))
  pub small : largest ≤ 10 ^ 9

-- of its first rows, this many, or 0
pub record IsLargestSoFar (n : ℕ) (matrix : List ℤ) (rows largest : ℕ) : Type 0 where
  pub above : (i j : ℕ) → i < rows → j < n → unsigned_abs (entry n matrix i j) ≤ largest
  pub reached : (largest ≡ 0) ⊎ ((i : ℕ) × (j : ℕ) × (i < rows) × (j < n) × (largest ≡ unsigned_abs (entry n matrix i j)))
  pub small : largest ≤ 10 ^ 9

-- of a number and a row
pub record IsLargestOfRow (row : List ℤ) (before largest : ℕ) : Type 0 where
  pub above_before : before ≤ largest
  pub above : (j : ℕ) → j < length row → unsigned_abs (slice_index_or row j (pos 0)) ≤ largest
  pub reached : (largest ≡ before) ⊎ ((j : ℕ) × (j < length row) × (largest ≡ unsigned_abs (slice_index_or row j (pos 0))))
  pub small : largest ≤ 10 ^ 9
