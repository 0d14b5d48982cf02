-- A node that is read from its list, which has facilities and locations alternately.
use Rattle.std.specs.Prelude.{◌≡◌, ℕ, List, ℤ, pos}
use Rattle.qap_cost.specs.Placement.{Placement, IsPlacement, IsFreeFacility, IsFreeLocation, placing}
use Rattle.qap_search.specs.Tuples.Piece.{node_list}

-- x is the node of size n whose list this is
pub record IsReadFrom (n : ℕ) (list : List ℤ) (x : Placement) : Type 0 where
  pub placement : IsPlacement x
  pub size : x.size ≡ n
  pub is : node_list x ≡ list

-- the list is that of the node x
abbrev pub IsListOf : Placement → List ℤ → Type 0
IsListOf x list = IsReadFrom x.size list x

-- y additionally has the facility and the location of these numbers, which are free in x
pub record IsNextOf (x : Placement) (facility location : ℤ) (y : Placement) : Type 0 where
  pub f : ℕ
  pub k : ℕ
  pub facility_is : facility ≡ pos f
  pub location_is : location ≡ pos k
  pub free_facility : IsFreeFacility x f
  pub free_location : IsFreeLocation x k
  pub is : y ≡ placing x f k
  pub placement : IsPlacement y
