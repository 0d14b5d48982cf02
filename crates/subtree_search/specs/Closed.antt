-- Nodes that no better permutation completes, and values that reach every bound up to a cost.
use Rattle.std.specs.Prelude.{◌≡◌, ℕ, Bool, true, false, List, ℤ, pos, ◌+ℤ◌, ◌-ℤ◌, ◌*ℤ◌, ◌≤ℤ◌, ◌<ℤ◌}
use Rattle.qap_cost.specs.Instance.{Problem}
use Rattle.qap_cost.specs.Matrix.{total}
use Rattle.qap_cost.specs.Objective.{cost_of}
use Rattle.qap_cost.specs.Placement.{Placement, Completes}
use Rattle.pair_duals.specs.CostStep.{step_of}
use Rattle.pair_duals.specs.Reduced.{Form, AreLeast, AreLeastOfRows, count_of}
use Rattle.proof_tree.specs.Valid.{ReachesBound}

-- no completion of the node costs less than c
pub record IsClosed (I : Problem) (y : Placement) (c : ℤ) : Type 0 where
  pub least : (p : List ℕ) → Completes y p → c ≤ℤ cost_of I p

-- what the values of a node must exceed so that none of its completions costs less than c, if costs are multiples of the step
abbrev pub threshold_of : ℕ → ℕ → ℤ → ℤ
threshold_of scale step c = pos scale *ℤ (c -ℤ pos step)

-- a value reaches every bound up to c
abbrev pub Reaches : Problem → ℕ → ℤ → ℤ → Type 0
Reaches I scale c value = (bound : ℤ) → bound ≤ℤ c → ReachesBound (step_of I) bound scale value

-- likewise the value of a form with its row minima, and then its column minima
pub record ReachesTrivially (I : Problem) (scale : ℕ) (c : ℤ) (R : Form) : Type 0 where
  pub u : List ℤ
  pub v : List ℤ
  pub rows : AreLeastOfRows (count_of R) R.entries u
  pub columns : AreLeast (count_of R) R.entries u v
  pub reaches : Reaches I scale c (R.value +ℤ (total u +ℤ total v))

-- the value of a form with its row minima, and then its column minima, is not above the threshold
pub record StaysWithin (R : Form) (threshold : ℤ) : Type 0 where
  pub u : List ℤ
  pub v : List ℤ
  pub rows : AreLeastOfRows (count_of R) R.entries u
  pub columns : AreLeast (count_of R) R.entries u v
  pub within : (R.value +ℤ (total u +ℤ total v)) ≤ℤ threshold

-- the row minima, and then the column minima; the form closes if and only if their sum with the value is above the threshold
pub record HasLeast (R : Form) (threshold : ℤ) (is_closed : Bool) : Type 0 where
  pub u : List ℤ
  pub v : List ℤ
  pub rows : AreLeastOfRows (count_of R) R.entries u
  pub columns : AreLeast (count_of R) R.entries u v
  pub closes : is_closed ≡ true → threshold <ℤ (R.value +ℤ (total u +ℤ total v))
  pub left : is_closed ≡ false → (R.value +ℤ (total u +ℤ total v)) ≤ℤ threshold
