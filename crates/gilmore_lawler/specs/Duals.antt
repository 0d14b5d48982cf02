-- Duals of the rows and columns of a matrix, including a matrix whose entries are products of rows, and that of a node.
use Rattle.std.specs.Prelude.{ℕ, ◌<◌, ◌↔◌, Bool, IsTrue, List, length, ℤ, pos, ◌+ℤ◌, ◌≤ℤ◌, slice_index_or}
use Rattle.qap_cost.specs.Instance.{Problem}
use Rattle.qap_cost.specs.Matrix.{Square, IsMatrix, DualsFit}
use Rattle.qap_cost.specs.Placement.{Placement}
use Rattle.gilmore_lawler.specs.ReducedMatrix.{IsReduced}
use Rattle.gilmore_lawler.specs.Table.{segment, dot}

-- no number of the row is below the sum of the row's dual and that of its column
pub record RowFits (row : List ℤ) (x : ℤ) (v : List ℤ) : Type 0 where
  pub below : (k : ℕ) → k < length row → (x +ℤ slice_index_or v k (pos 0)) ≤ℤ slice_index_or row k (pos 0)

-- no product of the row with one of these others is below the sum of the row's dual and that of its column
pub record RowProductsFit (row others : List ℤ) (x : ℤ) (v : List ℤ) : Type 0 where
  pub below : (k : ℕ) → k < length v → (x +ℤ slice_index_or v k (pos 0)) ≤ℤ dot row (segment (length row) others k)

-- likewise for each row of this width
pub record ProductsFit (width : ℕ) (rows others u v : List ℤ) : Type 0 where
  pub below : (i k : ℕ) → i < length u → k < length v → (slice_index_or u i (pos 0) +ℤ slice_index_or v k (pos 0)) ≤ℤ dot (segment width rows i) (segment width others k)

-- true if and only if the duals fit the node's Gilmore-Lawler matrix
pub record TellsFit (I : Problem) (x : Placement) (u v : List ℤ) (fit : Bool) : Type 0 where
  pub matrix : Square
  pub square : IsMatrix matrix
  pub reduced : IsReduced I x matrix
  pub tells : IsTrue fit ↔ DualsFit matrix u v
