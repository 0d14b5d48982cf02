-- A row of a matrix, and its products.
use Rattle.std.specs.Prelude.{◌≡◌, ℕ, ◌<◌, List, length, ℤ, pos, ◌*ℤ◌, slice_index, slice_index_or}
use Rattle.qap_cost.specs.Instance.{entry}
pub use Rattle.qap_cost.specs.Range.{AllInRange}

-- the list is row i of an n by n matrix that is listed by rows
pub record IsRow (n : ℕ) (matrix : List ℤ) (i : ℕ) (row : List ℤ) : Type 0 where
  pub count : length row ≡ n
  pub entries : (j : ℕ) → j < n → slice_index_or row j (pos 0) ≡ entry n matrix i j

-- the number at j in one row times the number at p(j) in the other
abbrev pub product_at : List ℤ → List ℤ → List ℕ → ℕ → ℤ
product_at xs ys p j = slice_index_or xs j (pos 0) *ℤ slice_index_or ys (slice_index p j) (pos 0)

-- the number at p(t) in one row times the number at q(t) in the other
abbrev pub product_between : List ℤ → List ℤ → List ℕ → List ℕ → ℕ → ℤ
product_between xs ys p q t = slice_index_or xs (slice_index p t) (pos 0) *ℤ slice_index_or ys (slice_index q t) (pos 0)
