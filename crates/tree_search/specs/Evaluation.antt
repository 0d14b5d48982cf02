-- The evaluation of a node by the bound of Gilmore (1962) and Lawler (1963).
use Rattle.std.specs.Prelude.{◌≡◌, ◌≤◌, ◌+ℤ◌, length}
use Rattle.qap_cost.specs.Instance.{Problem}
use Rattle.qap_cost.specs.Limits.{max_size}
use Rattle.qap_cost.specs.Matrix.{dual_value}
use Rattle.qap_cost.specs.Placement.{Placement, fixed_cost_of}
use Rattle.qap_cost.specs.Range.{IsLimited}
use Rattle.gilmore_lawler.specs.Closing.{AreDuals, Fits}
use Rattle.qap_proof.specs.Shape.{free_count}
use Rattle.tree_search.specs.declared.evaluation.Evaluation.{Evaluation}

-- a facility and a dual for each row, a location and a dual for each column, of at most 256
pub record HasLines (e : Evaluation) : Type 0 where
  pub few : e.matrix.size ≤ max_size
  pub facilities : length e.facilities.items ≡ e.matrix.size
  pub locations : length e.locations.items ≡ e.matrix.size
  pub u : length e.duals.u.items ≡ e.matrix.size
  pub v : length e.duals.v.items ≡ e.matrix.size

-- the duals fit the node's Gilmore-Lawler matrix, and have this value with the cost of the placed facilities
pub record IsEvaluation (I : Problem) (x : Placement) (e : Evaluation) : Type 0 where
  pub lines : HasLines e
  pub duals : AreDuals (free_count x) e.duals.u.items e.duals.v.items
  pub fits : Fits I x e.duals.u.items e.duals.v.items
  pub value : e.value ≡ fixed_cost_of I x +ℤ dual_value e.duals.u.items e.duals.v.items
  pub limited : IsLimited e.value
