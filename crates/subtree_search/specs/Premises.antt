-- The premises of a search.
use Rattle.std.specs.Prelude.{◌≡◌, ℕ, ◌+◌, ◌^◌, List, length, All, pos}
use Rattle.qap_cost.specs.Instance.{Problem}
use Rattle.qap_cost.specs.Placement.{Placement, IsPlacement}
use Rattle.qap_cost.specs.Symmetry.{Keeps}
use Rattle.pair_duals.specs.CostStep.{Divides, step_of}
use Rattle.pair_duals.specs.Limits.{Limits}
use Rattle.pair_duals.specs.PairDuals.{Duals, Fit}
use Rattle.pair_duals.specs.Range.{IsInScale}
use Rattle.pair_duals.specs.Reduced.{Form, IsFormOf}

-- the limits of numbers of 64 bits
abbrev pub limits_of_64 : Limits
limits_of_64 = record { size = 64; cost = 2 ^ 52; dual = 2 ^ 45; pair = 2 ^ 53 + 2 ^ 48; start = 2 ^ 59 + 2 ^ 53; reach = 2 ^ 61 + 2 ^ 57; sum = 2 ^ 62 + 2 ^ 61 }

-- as many locations as facilities; the pair duals fit, the numbers are in scale, and the step divides the cost step
pub record AreSound (I : Problem) (D : Duals) (step : ℕ) : Type 0 where
  pub size : I.size ≡ D.size
  pub even : length D.locations ≡ length D.facilities
  pub in_scale : IsInScale limits_of_64 I D.scale
  pub fit : Fit I D
  pub divides : Divides step (pos (step_of I))

-- a node of the instance, and its form under the pair duals
pub record IsNode (I : Problem) (D : Duals) (step : ℕ) (y : Placement) (R : Form) : Type 0 where
  pub placement : IsPlacement y
  pub size : I.size ≡ y.size
  pub sound : AreSound I D step
  pub form : IsFormOf I D y R

-- permutations that preserve the flows, and others that preserve the distances
pub record AreSymmetries (I : Problem) (flows distances : List (List ℕ)) : Type 0 where
  pub keep_flows : All (Keeps I.size I.a) flows
  pub keep_distances : All (Keeps I.size I.b) distances
