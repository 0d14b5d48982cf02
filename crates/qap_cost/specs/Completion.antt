-- The permutation that completes a node by an assignment of its free facilities to its free locations.
use Rattle.std.specs.Prelude.{◌≡◌, ◌≢◌, ℕ, ◌<◌, List, length, slice_index}
use Rattle.qap_cost.specs.Bijection.{IsBijection}
use Rattle.qap_cost.specs.Placement.{Placement, free_facilities, free_locations}

-- the r-th free facility takes the q(r)-th free location
pub record IsMatching (x : Placement) (q : List ℕ) : Type 0 where
  pub bijection : IsBijection q
  pub count : length q ≡ length (free_facilities x)

-- p puts the placed facilities at their locations, and the free ones as q says
pub record IsCompletion (x : Placement) (q p : List ℕ) : Type 0 where
  pub same_size : length p ≡ x.size
  pub placed : (t : ℕ) → t < length x.facilities → slice_index p (slice_index x.facilities t) ≡ slice_index x.places t
  pub free : (r : ℕ) → r < length (free_facilities x) → slice_index p (slice_index (free_facilities x) r) ≡ slice_index (free_locations x) (slice_index q r)

-- each value has been put at its position, and all else is unchanged
pub record Puts (positions values old new : List ℕ) : Type 0 where
  pub long : length new ≡ length old
  pub put : (t : ℕ) → t < length positions → slice_index new (slice_index positions t) ≡ slice_index values t
  pub kept : (i : ℕ) → ((t : ℕ) → t < length positions → slice_index positions t ≢ i) → slice_index new i ≡ slice_index old i
