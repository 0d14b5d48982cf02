-- Duals that close a node: they fit its Gilmore-Lawler matrix, so that every permutation that completes the node costs at
-- least their sum plus the cost of the placed facilities (Gilmore 1962; Lawler 1963).
use Rattle.std.specs.Prelude.{◌≡◌, ℕ, List, length, ℤ, ◌+ℤ◌, ◌≤ℤ◌}
use Rattle.qap_cost.specs.Instance.{Problem}
use Rattle.qap_cost.specs.Matrix.{Square, IsMatrix, DualsFit, dual_value}
use Rattle.qap_cost.specs.Placement.{Placement, fixed_cost_of}
use Rattle.qap_cost.specs.Range.{AllLimited}
use Rattle.gilmore_lawler.specs.ReducedMatrix.{IsReduced}

-- a dual for each of m rows and each of m columns, all from -10^24 to 10^24
pub record AreDuals (m : ℕ) (u v : List ℤ) : Type 0 where
  pub rows : length u ≡ m
  pub columns : length v ≡ m
  pub u_range : AllLimited u
  pub v_range : AllLimited v

-- the duals fit the Gilmore-Lawler matrix
pub record Fits (I : Problem) (x : Placement) (u v : List ℤ) : Type 0 where
  pub matrix : Square
  pub square : IsMatrix matrix
  pub reduced : IsReduced I x matrix
  pub fits : DualsFit matrix u v

-- the duals fit, and their sum plus the cost of the placed facilities is at least g
pub record Closes (I : Problem) (g : ℤ) (x : Placement) (u v : List ℤ) : Type 0 where
  pub fits : Fits I x u v
  pub enough : g ≤ℤ (fixed_cost_of I x +ℤ dual_value u v)
