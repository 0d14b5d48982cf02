-- Instances of the quadratic assignment problem (Koopmans and Beckmann 1957), within the limits on sizes and entries.
use Rattle.std.specs.Prelude.{◌≡◌, ℕ, ◌+◌, ◌*◌, ◌<◌, ◌≤◌, List, length, ℤ, pos, slice_index_or}
use Rattle.qap_cost.specs.Limits.{max_size}
pub use Rattle.qap_cost.specs.Range.{InRange}

-- two size by size matrices, each listed by rows
pub record Problem : Type 0 where
  pub size : ℕ
  pub a : List ℤ
  pub b : List ℤ

-- row i, column j of an n by n matrix that is listed by rows
abbrev pub entry : ℕ → List ℤ → ℕ → ℕ → ℤ
entry n xs i j = slice_index_or xs (i * n + j) (pos 0)

-- a size from 1 to 256, and two matrices of that size with entries from -10^9 to 10^9
pub record IsInstance (I : Problem) : Type 0 where
  pub positive : 0 < I.size
  pub small : I.size ≤ max_size
  pub a_count : length I.a ≡ I.size * I.size
  pub b_count : length I.b ≡ I.size * I.size
  pub a_range : (k : ℕ) → k < I.size * I.size → InRange (slice_index_or I.a k (pos 0))
  pub b_range : (k : ℕ) → k < I.size * I.size → InRange (slice_index_or I.b k (pos 0))
