-- Nodes of a search: some facilities are placed at distinct locations, and the others are free.
use Rattle.std.specs.Prelude.{◌≡◌, ◌≢◌, ℕ, ◌+◌, ◌<◌, ◌≤◌, ◌==◌, not, Bool, List, [], ◌∷◌, ◌++◌, length, filter, ℤ, ◌*ℤ◌, slice_index}
use Rattle.std.specs.List.{list_any, range_with_len}
use Rattle.qap_cost.specs.Limits.{max_size}
use Rattle.qap_cost.specs.Sum.{sum_to}
use Rattle.qap_cost.specs.Bijection.{AreDifferent, IsBijection}
use Rattle.qap_cost.specs.Instance.{Problem, entry}

-- of `size` facilities these are at these locations, listed in the order of placement
pub record Placement : Type 0 where
  pub size : ℕ
  pub facilities : List ℕ
  pub places : List ℕ

-- distinct facilities at distinct locations
pub record IsPlacement (x : Placement) : Type 0 where
  pub positive : 0 < x.size
  pub small : x.size ≤ max_size
  pub paired : length x.places ≡ length x.facilities
  pub facilities : AreDifferent x.size x.facilities
  pub places : AreDifferent x.size x.places

-- nothing is placed
abbrev pub root_of : ℕ → Placement
root_of n = record { size = n; facilities = []; places = [] }

-- facility f placed at location k in addition
abbrev pub placing : Placement → ℕ → ℕ → Placement
placing x f k = record { size = x.size; facilities = x.facilities ++ f ∷ []; places = x.places ++ k ∷ [] }

-- a number below n that is not among those taken
pub record IsFree (n : ℕ) (taken : List ℕ) (k : ℕ) : Type 0 where
  pub within : k < n
  pub untaken : (i : ℕ) → i < length taken → slice_index taken i ≢ k

-- facility f is not placed
abbrev pub IsFreeFacility : Placement → ℕ → Type 0
IsFreeFacility x f = IsFree x.size x.facilities f

-- location k is not taken
abbrev pub IsFreeLocation : Placement → ℕ → Type 0
IsFreeLocation x k = IsFree x.size x.places k

-- the test for a number that is not among those taken
abbrev pub is_untaken : List ℕ → ℕ → Bool
is_untaken taken k = not (list_any (λ l. k == l) taken)

-- the numbers below n that are not among those taken, ascending
abbrev pub free_below : ℕ → List ℕ → List ℕ
free_below n taken = filter (is_untaken taken) (range_with_len 0 n)

-- the facilities that are not placed, ascending
abbrev pub free_facilities : Placement → List ℕ
free_facilities x = free_below x.size x.facilities

-- the locations that are not taken, ascending
abbrev pub free_locations : Placement → List ℕ
free_locations x = free_below x.size x.places

-- the list has each free number once, ascending, and nothing else
pub record ListsFree (n : ℕ) (taken free : List ℕ) : Type 0 where
  pub count : length free + length taken ≡ n
  pub each : (i : ℕ) → i < length free → IsFree n taken (slice_index free i)
  pub all : (k : ℕ) → IsFree n taken k → (i : ℕ) × (i < length free) × (slice_index free i ≡ k)
  pub ascending : (i j : ℕ) → i < j → j < length free → slice_index free i < slice_index free j

-- a permutation that puts each placed facility at its location
pub record Completes (x : Placement) (p : List ℕ) : Type 0 where
  pub bijection : IsBijection p
  pub same_size : length p ≡ x.size
  pub agrees : (t : ℕ) → t < length x.facilities → slice_index p (slice_index x.facilities t) ≡ slice_index x.places t

-- facility f is placed, at location k
pub record StandsAt (x : Placement) (f k : ℕ) : Type 0 where
  pub turn : ℕ
  pub placed : turn < length x.facilities
  pub facility : slice_index x.facilities turn ≡ f
  pub location : slice_index x.places turn ≡ k

-- the cost of the s-th and t-th placed facilities together
abbrev pub placed_pair_cost : Problem → Placement → ℕ → ℕ → ℤ
placed_pair_cost I x s t =
    entry I.size I.a (slice_index x.facilities s) (slice_index x.facilities t) *ℤ entry I.size I.b (slice_index x.places s) (slice_index x.places t)

-- the cost of the placed facilities among themselves
abbrev pub fixed_cost_of : Problem → Placement → ℤ
fixed_cost_of I x = sum_to (λ s. sum_to (placed_pair_cost I x s) (length x.facilities)) (length x.facilities)
