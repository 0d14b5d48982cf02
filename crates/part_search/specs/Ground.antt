-- What a search on parts needs regardless of the node.
use Rattle.std.specs.Prelude.{◌≡◌, ℕ, ℤ, pos, ◌≤ℤ◌, ◌*ℤ◌, ◌⊎◌, List, All, IfSome}
use Rattle.std.specs.Arc.{arc_value}
use Rattle.qap_cost.specs.Instance.{Problem}
use Rattle.qap_cost.specs.Placement.{Placement, IsFreeFacility, IsFreeLocation}
use Rattle.dual_ascent.specs.AscentRange.{HasRange}
use Rattle.pair_duals.specs.CostStep.{step_of}
use Rattle.subtree_search.specs.Premises.{AreSymmetries}
use Rattle.subtree_search.specs.declared.split.OpenChild.{OpenChild}
use Rattle.part_search.specs.declared.ground.Bounds.{Bounds}
use Rattle.part_search.specs.declared.ground.Bounds.TheVariants.{Duals, Rows}
use Rattle.part_search.specs.declared.ground.Parent.{Parent}
use Rattle.part_search.specs.declared.ground.RootDuals.{RootDuals}
use Rattle.part_search.specs.declared.ground.Splitter.{Splitter}
use Rattle.part_search.specs.declared.open_node.Open.{Open}
use Rattle.part_search.specs.Covers.{HasValue, IsCovered}
use Rattle.part_search.specs.Tuples.{OpenNode}

-- the cost step of the instance, and a scale at which there are pair duals
pub record IsKnown (I : Problem) (known : RootDuals) : Type 0 where
  pub is_step : known.step ≡ pos (step_of I)
  pub range : HasRange I known.scale

-- pair duals are in range, or the rows are those of the instance
abbrev pub AreBounds : Problem → Bounds → Type 0
AreBounds I (Duals known) = IsKnown I known
AreBounds I (Rows ranked) = arc_value ranked ≡ I

-- symmetries of the instance, and bounds of its nodes
pub record IsGround (I : Problem) (flows distances : List (List ℕ)) (bounds : Bounds) : Type 0 where
  pub symmetries : AreSymmetries I flows distances
  pub bounds_are : AreBounds I bounds

-- what is kept for splits by rows is of the instance
abbrev pub IsSplitter : Problem → Splitter → Type 0
IsSplitter I s = IfSome s.rows (λ (J : Problem). J ≡ I)

-- an open node of the instance's size, and symmetries of the instance
pub record IsParent (p : Parent) : Type 0 where
  pub size : p.at.now.node.size ≡ p.instance.now.size
  pub symmetries : AreSymmetries p.instance.now p.flows.now p.distances.now

-- a free facility at a free location
pub record IsFreeChild (y : Placement) (child : OpenChild) : Type 0 where
  pub facility : IsFreeFacility y child.facility
  pub location : IsFreeLocation y child.location

-- its node
abbrev pub node_part : Open → Placement
node_part o = o.node

-- the value of a child: its parent's, or one that no cost lies below which, scaled, is at least this
abbrev pub IsChildValue : ℤ → ℤ → ℕ → ℤ → Type 0
IsChildValue parent scaled scale value = (value ≡ parent) ⊎ ((cost : ℤ) → scaled ≤ℤ (pos scale *ℤ cost) → value ≤ℤ cost)

-- open nodes that cover another one at c, and whose values are valid whenever that one's is
pub record StandFor (I : Problem) (c : ℤ) (at : OpenNode) (opens : List OpenNode) : Type 0 where
  pub values : (d : ℤ) → HasValue I d at → All (HasValue I d) opens
  pub covers : IsCovered I at.node c opens
