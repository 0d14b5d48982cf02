-- Square matrices, and the assignments of their rows to their columns (Kuhn 1955; Burkard, Dell'Amico and Martello,
-- Assignment Problems, 2009).
use Rattle.std.specs.Prelude.{◌≡◌, ℕ, ◌*◌, ◌<◌, ◌≤◌, List, length, ℤ, pos, ◌+ℤ◌, ◌≤ℤ◌, slice_index, slice_index_or}
use Rattle.qap_cost.specs.Limits.{max_size}
use Rattle.qap_cost.specs.Sum.{sum_to}
use Rattle.qap_cost.specs.Bijection.{IsBijection}
use Rattle.qap_cost.specs.Instance.{entry}

-- a size by size matrix, listed by rows
pub record Square : Type 0 where
  pub size : ℕ
  pub entries : List ℤ

-- a size of at most 256, and an entry for each row and each column
pub record IsMatrix (M : Square) : Type 0 where
  pub small : M.size ≤ max_size
  pub count : length M.entries ≡ M.size * M.size

-- row i, column k
abbrev pub entry_of : Square → ℕ → ℕ → ℤ
entry_of M i k = entry M.size M.entries i k

-- each row takes a distinct column: row i takes column p(i)
pub record Assigns (M : Square) (p : List ℕ) : Type 0 where
  pub bijection : IsBijection p
  pub same_size : length p ≡ M.size

-- the cost of row i at the column that p gives it
abbrev pub assigned : Square → List ℕ → ℕ → ℤ
assigned M p i = entry_of M i (slice_index p i)

-- the cost of an assignment: the sum of the costs of its rows
abbrev pub assignment_cost : Square → List ℕ → ℤ
assignment_cost M p = sum_to (assigned M p) M.size

-- a number for each row and one for each column; every entry is at least their sum
pub record DualsFit (M : Square) (u v : List ℤ) : Type 0 where
  pub u_count : length u ≡ M.size
  pub v_count : length v ≡ M.size
  pub below : (i k : ℕ) → i < M.size → k < M.size → (slice_index_or u i (pos 0) +ℤ slice_index_or v k (pos 0)) ≤ℤ entry_of M i k

-- the sum of a list
abbrev pub total : List ℤ → ℤ
total xs = sum_to (λ i. slice_index_or xs i (pos 0)) (length xs)

-- the sum of u and v
abbrev pub dual_value : List ℤ → List ℤ → ℤ
dual_value u v = total u +ℤ total v
