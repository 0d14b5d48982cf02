-- A split: a node each of whose children puts the same free facility at a free location.
use Rattle.std.specs.Prelude.{◌≡◌, ◌≤◌, ◌*◌, ◌^◌, ◌++◌, ◌∷◌, [], ℕ, ℤ, List, unsigned_abs}
use Rattle.qap_cost.specs.Instance.{Problem}
use Rattle.qap_cost.specs.Placement.{Placement, IsPlacement, IsFreeFacility, fixed_cost_of}
use Rattle.gilmore_lawler.specs.FlowRows.{HasFlowRows, HasLocationRows}
use Rattle.gilmore_lawler.specs.Table.{linear_row}

-- an instance, a node of it, and the facility on which the node is split
pub record Split : Type 0 where
  pub instance : Problem
  pub node : Placement
  pub facility : ℕ

-- the rows of the flows that all children share; the flows of the facility with itself and with the placed ones; the rows of the
-- distances at the node; and its fixed cost
pub record HasSplitRows (s : Split) (flows linear : List ℤ) (places free : List ℕ) (distances : List ℤ) (fixed : ℤ) : Type 0 where
  pub same_size : s.instance.size ≡ s.node.size
  pub placement : IsPlacement s.node
  pub facility : IsFreeFacility s.node s.facility
  pub flows_are : HasFlowRows (record { instance = s.instance; facilities = s.node.facilities ++ s.facility ∷ [] }) flows
  pub linear_is : linear ≡ linear_row s.instance.size s.instance.a s.node.facilities s.facility
  pub at : places ≡ s.node.places
  pub distances_are : HasLocationRows s.instance places free distances
  pub fixed_is : fixed ≡ fixed_cost_of s.instance s.node
  pub fixed_bounded : unsigned_abs fixed ≤ 65536 * 10 ^ 18
