-- A row of duals.
use Rattle.std.specs.Prelude.{◌≡◌, ℕ, ◌<◌, ◌≤◌, List, length, ℤ, pos, slice_index_or, unsigned_abs}
use Rattle.qap_cost.specs.Range.{AllWithin}

-- the numbers f(0), .., f(m - 1), each within the limit
pub record IsDualRow (limit m : ℕ) (f : ℕ → ℤ) (xs : List ℤ) : Type 0 where
  pub count : length xs ≡ m
  pub entries : (k : ℕ) → k < m → slice_index_or xs k (pos 0) ≡ f k
  pub range : AllWithin limit xs

-- m numbers, the first of them f(0), .., f(count - 1)
pub record BeginsDualRow (limit m : ℕ) (f : ℕ → ℤ) (count : ℕ) (xs : List ℤ) : Type 0 where
  pub length : length xs ≡ m
  pub entries : (k : ℕ) → k < count → slice_index_or xs k (pos 0) ≡ f k
  pub range : (k : ℕ) → k < count → unsigned_abs (slice_index_or xs k (pos 0)) ≤ limit
