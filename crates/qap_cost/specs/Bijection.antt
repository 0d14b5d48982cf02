-- Permutations as lists: the number at position i is the image of i.
use Rattle.std.specs.Prelude.{◌≡◌, ℕ, ◌<◌, ◌≤◌, List, length, slice_index}
use Rattle.qap_cost.specs.Limits.{max_size}

-- distinct numbers below n
pub record AreDifferent (n : ℕ) (xs : List ℕ) : Type 0 where
  pub within : (i : ℕ) → i < length xs → slice_index xs i < n
  pub distinct : (i j : ℕ) → i < length xs → j < length xs → slice_index xs i ≡ slice_index xs j → i ≡ j

-- a bijection of 0, .., n - 1 to itself, where n is the list's length
abbrev pub IsBijection : List ℕ → Type 0
IsBijection p = AreDifferent (length p) p

-- q is the inverse of p
pub record IsInverse (p q : List ℕ) : Type 0 where
  pub same_length : length q ≡ length p
  pub there : (i : ℕ) → i < length p → slice_index q (slice_index p i) ≡ i
  pub back : (k : ℕ) → k < length p → slice_index p (slice_index q k) ≡ k

-- the permutations of the problem: of 1 to 256 numbers
pub record IsPerm (p : List ℕ) : Type 0 where
  pub bijection : IsBijection p
  pub positive : 0 < length p
  pub small : length p ≤ max_size
