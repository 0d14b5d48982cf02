-- Ascending and descending lists, and reordered lists.
use Rattle.std.specs.Prelude.{◌≡◌, ℕ, ◌<◌, ◌≤◌, List, length, ℤ, pos, ◌≤ℤ◌, slice_index, slice_index_or}
use Rattle.qap_cost.specs.Bijection.{IsBijection}

-- no number of the list is below an earlier one
pub record IsAscending (xs : List ℤ) : Type 0 where
  pub rises : (i j : ℕ) → i ≤ j → j < length xs → slice_index_or xs i (pos 0) ≤ℤ slice_index_or xs j (pos 0)

-- no number of the list is above an earlier one
pub record IsDescending (xs : List ℤ) : Type 0 where
  pub falls : (i j : ℕ) → i ≤ j → j < length xs → slice_index_or xs j (pos 0) ≤ℤ slice_index_or xs i (pos 0)

-- ys has the numbers of xs in another order: at each position i the one at order(i) of xs
pub record IsArranged (xs ys : List ℤ) : Type 0 where
  pub order : List ℕ
  pub bijection : IsBijection order
  pub count : length order ≡ length xs
  pub same_length : length ys ≡ length xs
  pub reads : (i : ℕ) → i < length xs → slice_index_or ys i (pos 0) ≡ slice_index_or xs (slice_index order i) (pos 0)
