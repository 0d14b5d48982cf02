-- A least assignment of the first rows of a matrix, with duals that prove it: what holds before and after each row is
-- assigned (Kuhn 1955; Burkard, Dell'Amico and Martello, Assignment Problems, 2009, section 4.2).
use Rattle.std.specs.Prelude.{◌≡◌, ℕ, ◌<◌, ◌≤◌, List, length, ℤ, pos, ◌+ℤ◌, ◌≤ℤ◌, slice_index, slice_index_or, Option, Some, None}
use Rattle.qap_cost.specs.Matrix.{Square, entry_of}
use Rattle.assign_dual.specs.Number.{number_at}

-- the row that is assigned to column k, if any
abbrev pub owner_of : List (Option ℕ) → ℕ → Option ℕ
owner_of row_of k = slice_index_or row_of k None

-- the duals fit the first rows, and those of the other rows are 0; no column's dual is positive, and one is 0
pub record FitsRows (M : Square) (rows : ℕ) (u v : List ℤ) : Type 0 where
  pub u_count : length u ≡ M.size
  pub v_count : length v ≡ M.size
  pub below : (i k : ℕ) → i < rows → k < M.size → (number_at u i +ℤ number_at v k) ≤ℤ entry_of M i k
  pub rest : (i : ℕ) → rows ≤ i → i < M.size → number_at u i ≡ pos 0
  pub falls : (k : ℕ) → k < M.size → number_at v k ≤ℤ pos 0
  pub level : 0 < M.size → (z : ℕ) × (z < M.size) × (number_at v z ≡ pos 0)

-- each of the first rows has a distinct column, and each column records its row
pub record IsMatching (n rows : ℕ) (matching : List ℕ) (row_of : List (Option ℕ)) : Type 0 where
  pub matching_count : length matching ≡ n
  pub row_of_count : length row_of ≡ n
  pub column : (i : ℕ) → i < rows → slice_index matching i < n
  pub owner : (i : ℕ) → i < rows → owner_of row_of (slice_index matching i) ≡ Some i
  pub owned : (k i : ℕ) → k < n → owner_of row_of k ≡ Some i → (i < rows) × (slice_index matching i ≡ k)

-- row i is assigned column k at reduced cost 0
abbrev pub IsTight : Square → List ℤ → List ℤ → ℕ → ℕ → Type 0
IsTight M u v i k = (number_at u i +ℤ number_at v k) ≡ entry_of M i k

-- the duals fit the first rows, each with a distinct column at reduced cost 0; a column without a row has dual 0
pub record IsPartial (M : Square) (rows : ℕ) (matching : List ℕ) (row_of : List (Option ℕ)) (u v : List ℤ) : Type 0 where
  pub fits : FitsRows M rows u v
  pub matches : IsMatching M.size rows matching row_of
  pub tight : (i : ℕ) → i < rows → IsTight M u v i (slice_index matching i)
  pub free : (k : ℕ) → k < M.size → owner_of row_of k ≡ None → number_at v k ≡ pos 0

-- each assigned column has one of the first rows, and no two have the same
pub record OwnersDiffer (n rows : ℕ) (row_of : List (Option ℕ)) : Type 0 where
  pub within : (k i : ℕ) → k < n → owner_of row_of k ≡ Some i → i < rows
  pub distinct : (k l i : ℕ) → k < n → l < n → owner_of row_of k ≡ Some i → owner_of row_of l ≡ Some i → k ≡ l
