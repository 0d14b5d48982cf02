-- Where a permutation that completes a node puts its free facilities.
use Rattle.std.specs.Prelude.{◌≡◌, ℕ, ◌<◌, List, length, slice_index}
use Rattle.qap_cost.specs.Bijection.{IsBijection}
use Rattle.qap_cost.specs.Placement.{Placement, free_facilities, free_locations, placing}

-- the r-th free facility is at the seat(r)-th free location
pub record Seats (y : Placement) (p seat : List ℕ) : Type 0 where
  pub bijection : IsBijection seat
  pub count : length seat ≡ length (free_facilities y)
  pub stands : (r : ℕ) → r < length seat → slice_index p (slice_index (free_facilities y) r) ≡ slice_index (free_locations y) (slice_index seat r)

-- the child of y that puts its h-th free facility at its g-th free location
abbrev pub child_at : Placement → ℕ → ℕ → Placement
child_at y h g = placing y (slice_index (free_facilities y) h) (slice_index (free_locations y) g)
