-- The evaluation of a node by its Gilmore-Lawler matrix (Gilmore 1962; Lawler 1963).
use Rattle.std.specs.Prelude.{◌≡◌, ℕ, ◌≤◌, ◌*◌, ◌^◌, List, length, ℤ, pos, ◌+ℤ◌, ◌-ℤ◌, ◌≤ℤ◌, slice_index_or, unsigned_abs}
use Rattle.qap_cost.specs.Instance.{Problem}
use Rattle.qap_cost.specs.Matrix.{Square, IsMatrix, Assigns, assignment_cost, dual_value, entry_of}
use Rattle.qap_cost.specs.Placement.{Placement, fixed_cost_of}
use Rattle.qap_cost.specs.Range.{AllWithin}
use Rattle.assign_dual.specs.Least.{IsLeast}
use Rattle.gilmore_lawler.specs.ReducedMatrix.{IsReduced}
use Rattle.node_split.specs.declared.evaluation.Evaluation.{Evaluation}

-- a dual for each row and each column; no entry, dual or value is so large that a sum of four of them exceeds 128 bits
pub record AreInRange (e : Evaluation) : Type 0 where
  pub rows : length e.assignment.u.items ≡ e.matrix.size
  pub columns : length e.assignment.v.items ≡ e.matrix.size
  pub entries : (i k : ℕ) → unsigned_abs (entry_of e.matrix i k) ≤ 512 * 10 ^ 18
  pub u_range : AllWithin (512 * 10 ^ 18) e.assignment.u.items
  pub v_range : AllWithin (1024 * 10 ^ 18) e.assignment.v.items
  pub value : unsigned_abs e.value ≤ 6 * 10 ^ 26

-- an entry of the matrix without the duals of its row and column
abbrev pub reduced_cost : Evaluation → ℕ → ℕ → ℤ
reduced_cost e i k = entry_of e.matrix i k -ℤ slice_index_or e.assignment.u.items i (pos 0) -ℤ slice_index_or e.assignment.v.items k (pos 0)

-- what the node's bound becomes with the facility of this row at the location of this column
abbrev pub reached_at : Evaluation → ℕ → ℕ → ℤ
reached_at e i k = e.value +ℤ reduced_cost e i k

-- the node's Gilmore-Lawler matrix, a least assignment of it, and what the placed facilities cost with the sum of
-- its duals
pub record IsEvaluated (I : Problem) (x : Placement) (e : Evaluation) : Type 0 where
  pub square : IsMatrix e.matrix
  pub reduced : IsReduced I x e.matrix
  pub least : IsLeast e.matrix e.assignment
  pub value : e.value ≡ fixed_cost_of I x +ℤ dual_value e.assignment.u.items e.assignment.v.items
  pub range : AreInRange e

-- the bound of Gilmore and Lawler: what the placed facilities cost among themselves, and the least cost of an
-- assignment of the Gilmore-Lawler matrix
pub record IsBound (I : Problem) (x : Placement) (bound : ℤ) : Type 0 where
  pub matrix : Square
  pub square : IsMatrix matrix
  pub reduced : IsReduced I x matrix
  pub matching : List ℕ
  pub assigns : Assigns matrix matching
  pub least : (p : List ℕ) → Assigns matrix p → assignment_cost matrix matching ≤ℤ assignment_cost matrix p
  pub is : bound ≡ fixed_cost_of I x +ℤ assignment_cost matrix matching
