-- The parameters by which trees are checked.
use Rattle.std.specs.Prelude.{◌≡◌, ℕ, ◌^◌, ◌*◌, ◌<◌, ◌≤◌, List, length, ℤ, pos, ◌+ℤ◌, ◌*ℤ◌, ◌<ℤ◌, ◌≤ℤ◌, unsigned_abs}
use Rattle.std.specs.Int.{int_max}
use Rattle.qap_cost.specs.Instance.{Problem}
use Rattle.qap_cost.specs.Matrix.{total}
use Rattle.qap_cost.specs.Placement.{Placement, IsPlacement, free_facilities, free_locations}
use Rattle.pair_duals.specs.Limits.{Limits}
use Rattle.pair_duals.specs.PairDuals.{AreDuals}
use Rattle.pair_duals.specs.Range.{IsInScale}
use Rattle.pair_duals.specs.Reduced.{Form, AreLeast, AreLeastOfRows, IsFormOf, count_of}
use Rattle.qap_proof.specs.Cell.{own_on}
use Rattle.qap_proof.specs.declared.side.Side.{Side}
use Rattle.proof_tree.specs.Valid.{Under}

-- the limits of numbers of 128 bits
abbrev pub wide : Limits
wide = record { size = 256; cost = 2 ^ 20 * 10 ^ 18; dual = 10 ^ 24; pair = 10 ^ 25; start = 10 ^ 28; reach = 10 ^ 29; sum = 10 ^ 30 }

-- the greatest multiple of the step that is below the bound, within its range
pub record IsGreatestBelow (step : ℕ) (bound below : ℤ) : Type 0 where
  pub times : ℤ
  pub multiple : below ≡ pos step *ℤ times
  pub less : below <ℤ bound
  pub next : bound ≤ℤ (below +ℤ pos step)
  pub small : unsigned_abs below ≤ 10 ^ 30

-- the greatest multiples of the step below the bound, and below the cost, which is no smaller
pub record IsJudge (step : ℕ) (bound below cost enough : ℤ) : Type 0 where
  pub low : IsGreatestBelow step bound below
  pub high : IsGreatestBelow step cost enough
  pub at_most : bound ≤ℤ cost

-- a split of y on its free one with this index, with the pair duals and the form at y, and the scaled value to be exceeded
pub record IsParent (I : Problem) (below : ℤ) (y : Placement) (now : Under) (facilities locations : List ℕ) (side : Side) (own : ℕ) (threshold : ℤ) : Type 0 where
  pub placement : IsPlacement y
  pub size : I.size ≡ y.size
  pub rows : facilities ≡ free_facilities y
  pub columns : locations ≡ free_locations y
  pub own_in : own < length (own_on side y)
  pub duals_size : now.duals.size ≡ y.size
  pub duals : AreDuals wide now.duals
  pub in_scale : IsInScale wide I now.duals.scale
  pub form : IsFormOf I now.duals y now.form
  pub scaled : threshold ≡ pos now.duals.scale *ℤ below
  pub small : unsigned_abs threshold ≤ 10 ^ 37

-- the value, or if it is greater, its sum with the row minima and then the column minima
pub record IsValueWithMinima (R : Form) (z : ℤ) : Type 0 where
  pub u : List ℤ
  pub v : List ℤ
  pub rows : AreLeastOfRows (count_of R) R.entries u
  pub columns : AreLeast (count_of R) R.entries u v
  pub is : z ≡ int_max R.value (R.value +ℤ (total u +ℤ total v))
