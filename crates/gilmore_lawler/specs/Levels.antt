-- Kept rows, one level for each number of placed facilities.
use Rattle.std.specs.Prelude.{◌≡◌, ◌<◌, IsTrue, List, length, ℕ, slice_index_or}
use Rattle.qap_cost.specs.Instance.{Problem}
use Rattle.qap_cost.specs.Placement.{Placement}
use Rattle.gilmore_lawler.specs.FlowRows.{HasDistanceRows, HasFlowRows, HasLocationRows, KeepsFlowRows}
use Rattle.gilmore_lawler.specs.declared.child_rows.LocationRows.{LocationRows}
use Rattle.gilmore_lawler.specs.declared.flow_level.FlowLevel.{FlowLevel}
use Rattle.gilmore_lawler.specs.declared.levels.DistanceLevel.{DistanceLevel}
use Rattle.gilmore_lawler.specs.declared.levels.Level.{Level}

-- these are the rows with these locations taken
pub record AreRowsAt (I : Problem) (places : List ℕ) (known : LocationRows) : Type 0 where
  pub at : known.places.items ≡ places
  pub are_theirs : HasLocationRows I known.places.items known.free.items known.rows.items

-- the rows of the flows are those for their facilities, if they are marked as computed
abbrev pub KeepsFlows : Problem → FlowLevel → Type 0
KeepsFlows I level = KeepsFlowRows level.are_made (record { instance = I; facilities = level.facilities.items }) level.rows.items

-- the rows of the distances are those for their locations, if they are marked as computed
pub record KeepsDistances (I : Problem) (level : DistanceLevel) : Type 0 where
  pub are_theirs : IsTrue level.are_made → HasLocationRows I level.known.places.items level.known.free.items level.known.rows.items

-- the rows of both sides
pub record KeepsRows (I : Problem) (level : Level) : Type 0 where
  pub flows : KeepsFlows I level.flows
  pub distances : KeepsDistances I level.distances

-- the level of the node's depth has its rows
pub record HasLevel (I : Problem) (x : Placement) (levels : List Level) : Type 0 where
  pub deep : length x.places < length levels
  pub flows : (d : Level) → HasFlowRows (record { instance = I; facilities = x.facilities }) (slice_index_or levels (length x.places) d).flows.rows.items
  pub distances : (d : Level) → HasDistanceRows I x.places (slice_index_or levels (length x.places) d).distances.known.rows.items
