-- A node with its facilities listed in ascending order.
use Rattle.std.specs.Prelude.{◌≡◌, ℕ, ◌<◌, List, length, slice_index}
use Rattle.qap_cost.specs.Placement.{IsPlacement, Placement, StandsAt}

-- each number is larger than those before it
abbrev pub Ascend : List ℕ → Type 0
Ascend xs = (i j : ℕ) → i < j → j < length xs → slice_index xs i < slice_index xs j

-- of the facilities below f, y places exactly those that x places, at the same locations, in ascending order
pub record IsSortedTo (x : Placement) (f : ℕ) (y : Placement) : Type 0 where
  pub placement : IsPlacement y
  pub size : y.size ≡ x.size
  pub below : (i : ℕ) → i < length y.facilities → slice_index y.facilities i < f
  pub ascending : Ascend y.facilities
  pub stands : (i : ℕ) → i < length y.facilities → StandsAt x (slice_index y.facilities i) (slice_index y.places i)
  pub all : (g k : ℕ) → g < f → StandsAt x g k → StandsAt y g k
