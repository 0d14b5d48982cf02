-- The position in the Gilmore-Lawler matrix of the pair that a child of a split places.
use Rattle.std.specs.Prelude.{◌≡◌, ℕ, ◌<◌, List, length, slice_index}
use Rattle.qap_cost.specs.Placement.{Placement, free_facilities, free_locations}
use Rattle.qap_proof.specs.declared.side.Side.{Side}
use Rattle.qap_proof.specs.declared.side.Side.TheVariants.{Facility, Location}

-- the free ones of the side on which a split is, ascending
abbrev pub own_on : Side → Placement → List ℕ
own_on Facility x = free_facilities x
own_on Location x = free_locations x

-- the free ones of the other side, ascending, one for each child
abbrev pub others_on : Side → Placement → List ℕ
others_on Facility x = free_locations x
others_on Location x = free_facilities x

-- the position of a number in a list
pub record IsPlaceOf (free : List ℕ) (number place : ℕ) : Type 0 where
  pub within : place < length free
  pub is : slice_index free place ≡ number

-- the row and the column of child number c, where own is the position of what the split is on
abbrev pub IsCell : Side → ℕ → ℕ → ℕ → ℕ → Type 0
IsCell Facility own c row column = (row ≡ own) × (column ≡ c)
IsCell Location own c row column = (row ≡ c) × (column ≡ own)
