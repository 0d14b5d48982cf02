-- Matrices that are filled by rows.
use Rattle.std.specs.Prelude.{◌≡◌, ℕ, ◌/◌, ◌%◌, ◌<◌, List, length, slice_index_or}

-- the first items of a matrix of this many columns, by rows, each of which is as a row and a column require
pub record AreFilled {A : Type 0} (Is : ℕ → ℕ → A → Type 0) (none : A) (columns count : ℕ) (xs : List A) : Type 0 where
  pub many : length xs ≡ count
  pub each : (q : ℕ) → q < count → Is (q / columns) (q % columns) (slice_index_or xs q none)
