-- How the steps of assigning one row change the state.
use Rattle.std.specs.Prelude.{◌≡◌, ◌≢◌, ◌⊎◌, ℕ, ◌+◌, ◌<◌, ◌≤◌, List, length, ℤ, ◌+ℤ◌, ◌-ℤ◌, ◌≤ℤ◌, slice_index, Option, Some, None}
use Rattle.qap_cost.specs.Bijection.{IsBijection}
use Rattle.assign_dual.specs.Partial.{owner_of}
use Rattle.assign_dual.specs.Number.{number_at}

-- the tree has only the root: each column is reached from position 0
pub record StartsRow (row v distances : List ℤ) (origins : List ℕ) : Type 0 where
  pub distance : (k : ℕ) → k < length row → number_at distances k ≡ number_at row k -ℤ number_at v k
  pub origin : (k : ℕ) → k < length row → slice_index origins k ≡ 0

-- the columns before `done` stay, the others are permuted
pub record KeepsScanned (columns new : List ℕ) (done : ℕ) : Type 0 where
  pub same : (q : ℕ) → q < done → slice_index new q ≡ slice_index columns q
  pub later : (q : ℕ) → done ≤ q → q < length columns → (s : ℕ) × (done ≤ s) × (s < length columns) × (slice_index new q ≡ slice_index columns s)

-- column k takes the shorter of two paths: the previous one, or the one from `place` at this distance
pub record TakesShorter (old_distance distance candidate : ℤ) (old_origin origin place : ℕ) : Type 0 where
  pub at_most_old : distance ≤ℤ old_distance
  pub at_most_candidate : distance ≤ℤ candidate
  pub either : ((distance ≡ old_distance) × (origin ≡ old_origin)) ⊎ ((distance ≡ candidate) × (origin ≡ place))

-- each column from the position on takes the shorter path, and those before it are unchanged
pub record Relaxes (row v : List ℤ) (base : ℤ) (place : ℕ) (columns : List ℕ) (distances : List ℤ) (origins : List ℕ) (new_distances : List ℤ) (new_origins : List ℕ) : Type 0 where
  pub before : (q : ℕ) → q < place → q < length columns →
      (number_at new_distances (slice_index columns q) ≡ number_at distances (slice_index columns q)) × (slice_index new_origins (slice_index columns q) ≡ slice_index origins (slice_index columns q))
  pub from_place : (q : ℕ) → place ≤ q → q < length columns →
      TakesShorter (number_at distances (slice_index columns q)) (number_at new_distances (slice_index columns q)) ((base +ℤ number_at row (slice_index columns q)) -ℤ number_at v (slice_index columns q)) (slice_index origins (slice_index columns q)) (slice_index new_origins (slice_index columns q)) place

-- the duals of the tree's rows rise by the shortest path's length less their distance; the others are unchanged
pub record RaisesRows (tree_rows : List ℕ) (row_distances : List ℤ) (count : ℕ) (length_of_path : ℤ) (u new : List ℤ) : Type 0 where
  pub tree : (p : ℕ) → p < count → number_at new (slice_index tree_rows p) ≡ number_at u (slice_index tree_rows p) +ℤ (length_of_path -ℤ number_at row_distances p)
  pub others : (i : ℕ) → ((p : ℕ) → p < count → slice_index tree_rows p ≢ i) → number_at new i ≡ number_at u i

-- the duals of the scanned columns fall by the same amounts; the others are unchanged
pub record LowersColumns (columns : List ℕ) (distances : List ℤ) (done : ℕ) (length_of_path : ℤ) (v new : List ℤ) : Type 0 where
  pub scanned : (q : ℕ) → q < done → number_at new (slice_index columns q) ≡ number_at v (slice_index columns q) -ℤ (length_of_path -ℤ number_at distances (slice_index columns q))
  pub others : (q : ℕ) → done ≤ q → q < length columns → number_at new (slice_index columns q) ≡ number_at v (slice_index columns q)

-- column k is scanned or next, and the tree reaches it from row i
pub record TakesEdge (columns tree_rows origins : List ℕ) (done i k : ℕ) : Type 0 where
  pub at : ℕ
  pub scanned : at ≤ done
  pub is : slice_index columns at ≡ k
  pub row : slice_index tree_rows (slice_index origins k) ≡ i

-- each row keeps its column or takes one along an edge of the tree, and no column finally loses its row
pub record Augments (rows : ℕ) (columns tree_rows origins : List ℕ) (done : ℕ) (matching new : List ℕ) (row_of new_row_of : List (Option ℕ)) : Type 0 where
  pub moves : (i : ℕ) → i < rows + 1 →
      ((i < rows) × (slice_index new i ≡ slice_index matching i)) ⊎ TakesEdge columns tree_rows origins done i (slice_index new i)
  pub keeps : (k : ℕ) → k < length row_of → owner_of new_row_of k ≡ None → owner_of row_of k ≡ None

-- a path leads from the free column at position `done` back to the root: each column comes from an earlier position
pub record IsPath (columns tree_rows origins : List ℕ) (done : ℕ) (row_of : List (Option ℕ)) : Type 0 where
  pub order : IsBijection columns
  pub left : done < length columns
  pub tree_rows_count : length tree_rows ≡ length columns
  pub origins_count : length origins ≡ length columns
  pub joined : (q : ℕ) → q < done → owner_of row_of (slice_index columns q) ≡ Some (slice_index tree_rows (q + 1))
  pub earlier : (q : ℕ) → q ≤ done → slice_index origins (slice_index columns q) ≤ q
  pub free : owner_of row_of (slice_index columns done) ≡ None
