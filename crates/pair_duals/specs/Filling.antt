-- Square matrices, listed by rows, that are written entry by entry.
use Rattle.std.specs.Prelude.{◌≡◌, ℕ, ◌+◌, ◌*◌, ◌<◌, ◌≤◌, List, length, ℤ, pos, slice_index_or}
use Rattle.qap_cost.specs.Instance.{entry}

-- they are f(r,c), by rows
pub record AreEntries (m : ℕ) (f : ℕ → ℕ → ℤ) (xs : List ℤ) : Type 0 where
  pub entries : (r c : ℕ) → r < m → c < m → entry m xs r c ≡ f r c

-- the first `count` entries of row r have been written, and all others are unchanged
pub record FillsPart (m : ℕ) (f : ℕ → ℕ → ℤ) (r count : ℕ) (old new : List ℤ) : Type 0 where
  pub same_length : length new ≡ length old
  pub row : (c : ℕ) → c < count → entry m new r c ≡ f r c
  pub before : (k : ℕ) → k < r * m → slice_index_or new k (pos 0) ≡ slice_index_or old k (pos 0)
  pub after : (k : ℕ) → r * m + count ≤ k → slice_index_or new k (pos 0) ≡ slice_index_or old k (pos 0)

-- the first `count` rows have been written, and what follows them is unchanged
pub record FillsRows (m : ℕ) (f : ℕ → ℕ → ℤ) (count : ℕ) (old new : List ℤ) : Type 0 where
  pub same_length : length new ≡ length old
  pub rows : (r c : ℕ) → r < count → c < m → entry m new r c ≡ f r c
  pub after : (k : ℕ) → count * m ≤ k → slice_index_or new k (pos 0) ≡ slice_index_or old k (pos 0)
