-- The tree of shortest alternating paths from a row that is being assigned (Jonker and Volgenant 1987).
use Rattle.std.specs.Prelude.{◌≡◌, ℕ, ◌+◌, ◌<◌, ◌≤◌, List, length, ℤ, pos, ◌+ℤ◌, ◌-ℤ◌, ◌≤ℤ◌, slice_index, Option, Some}
use Rattle.qap_cost.specs.Matrix.{Square, entry_of}
use Rattle.qap_cost.specs.Bijection.{IsBijection}
use Rattle.assign_dual.specs.Partial.{owner_of}
use Rattle.assign_dual.specs.Number.{number_at}

-- the reduced cost of an entry under the duals of its row and its column
abbrev pub reduced_cost : Square → List ℤ → List ℤ → ℕ → ℕ → ℤ
reduced_cost M u v i k = (entry_of M i k -ℤ number_at u i) -ℤ number_at v k

-- The first `done` of the columns are scanned, each with its row at the next position of the tree; position 0 has the root.
-- A distance is the length of the shortest path found so far, and the origin is the position from which it comes.
pub record IsTree (M : Square) (root : ℕ) (row_of : List (Option ℕ)) (u v : List ℤ) (columns tree_rows : List ℕ) (row_distances distances : List ℤ) (origins : List ℕ) (done : ℕ) : Type 0 where
  pub order : IsBijection columns
  pub columns_count : length columns ≡ M.size
  pub tree_rows_count : length tree_rows ≡ M.size
  pub row_distances_count : length row_distances ≡ M.size
  pub distances_count : length distances ≡ M.size
  pub origins_count : length origins ≡ M.size
  pub root_row : slice_index tree_rows 0 ≡ root
  pub root_distance : number_at row_distances 0 ≡ pos 0
  pub joined : (q : ℕ) → q < done → owner_of row_of (slice_index columns q) ≡ Some (slice_index tree_rows (q + 1))
  pub reached : (q : ℕ) → q < done → number_at row_distances (q + 1) ≡ number_at distances (slice_index columns q)
  pub relaxed : (p k : ℕ) → p ≤ done → k < M.size →
      number_at distances k ≤ℤ (number_at row_distances p +ℤ reduced_cost M u v (slice_index tree_rows p) k)
  pub origin : (k : ℕ) → k < M.size → slice_index origins k ≤ done
  pub edge : (k : ℕ) → k < M.size →
      number_at distances k ≡ number_at row_distances (slice_index origins k) +ℤ reduced_cost M u v (slice_index tree_rows (slice_index origins k)) k
  pub earlier : (q : ℕ) → q < done → slice_index origins (slice_index columns q) ≤ q
  pub ascending : (p q : ℕ) → p < done → p ≤ q → q < M.size →
      number_at distances (slice_index columns p) ≤ℤ number_at distances (slice_index columns q)

-- no unscanned column is nearer than the next one
pub record IsNext (columns : List ℕ) (distances : List ℤ) (done : ℕ) : Type 0 where
  pub nearest : (q : ℕ) → done ≤ q → q < length columns →
      number_at distances (slice_index columns done) ≤ℤ number_at distances (slice_index columns q)
