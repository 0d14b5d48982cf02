-- Children that a split leaves open.
use Rattle.std.specs.Prelude.{◌≡◌, ℕ, List, [], ◌∷◌, ◌++◌, Option, Some, None, ℤ, pos, ◌*ℤ◌, ◌≤ℤ◌, ◌⊎◌, Contains}
use Rattle.qap_cost.specs.Instance.{Problem}
use Rattle.qap_cost.specs.Objective.{cost_of}
use Rattle.qap_cost.specs.Placement.{Placement, IsFreeFacility, IsFreeLocation, Completes, placing}
use Rattle.subtree_search.specs.Closed.{IsClosed}
use Rattle.subtree_search.specs.declared.split.OpenChild.{OpenChild}

-- the child of the node that it names
abbrev pub node_of : Placement → OpenChild → Placement
node_of y child = placing y child.facility child.location

-- a free facility and a free location; no completion of that child costs, scaled, less than its value
pub record IsOpen (I : Problem) (scale : ℕ) (y : Placement) (child : OpenChild) : Type 0 where
  pub facility : IsFreeFacility y child.facility
  pub location : IsFreeLocation y child.location
  pub least : (p : List ℕ) → Completes (node_of y child) p → child.value ≤ℤ (pos scale *ℤ cost_of I p)

-- an open child is the node x
pub record IsOpenAt (I : Problem) (scale : ℕ) (y x : Placement) (child : OpenChild) : Type 0 where
  pub is : node_of y child ≡ x
  pub opened : IsOpen I scale y child

-- some permutation of this cost completes a child that is left open
pub record CompletesOpen (I : Problem) (y : Placement) (children : List OpenChild) (c : ℤ) : Type 0 where
  pub child : OpenChild
  pub listed : Contains children child
  pub other : List ℕ
  pub completes : Completes (node_of y child) other
  pub cost : cost_of I other ≡ c

-- each completion of x costs at least c, or what a completion of an open child of y costs
pub record IsSettled (I : Problem) (y : Placement) (c : ℤ) (children : List OpenChild) (x : Placement) : Type 0 where
  pub each : (p : List ℕ) → Completes x p → (c ≤ℤ cost_of I p) ⊎ CompletesOpen I y children (cost_of I p)

-- the node x is closed, or it is an open child
abbrev pub Becomes : Problem → ℕ → Placement → Placement → ℤ → Option OpenChild → Type 0
Becomes I scale y x c None = IsClosed I x c
Becomes I scale y x c (Some child) = IsOpenAt I scale y x child

-- the child is added, if there is one
abbrev pub Adds : Option OpenChild → List OpenChild → List OpenChild → Type 0
Adds None old new = new ≡ old
Adds (Some child) old new = new ≡ old ++ child ∷ []
