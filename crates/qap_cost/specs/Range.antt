-- Bounds on the absolute value of numbers.
use Rattle.std.specs.Prelude.{ℕ, ◌<◌, ◌≤◌, List, length, ℤ, pos, slice_index_or, unsigned_abs}
use Rattle.qap_cost.specs.Limits.{max_entry, max_value}

-- no number of the list is further from 0 than the limit
pub record AllWithin (limit : ℕ) (xs : List ℤ) : Type 0 where
  pub each : (j : ℕ) → j < length xs → unsigned_abs (slice_index_or xs j (pos 0)) ≤ limit

-- from -10^9 to 10^9, like entries
abbrev pub InRange : ℤ → Type 0
InRange x = unsigned_abs x ≤ max_entry

-- each number is from -10^9 to 10^9
abbrev pub AllInRange : List ℤ → Type 0
AllInRange xs = AllWithin max_entry xs

-- from -10^24 to 10^24, like stated costs and duals
abbrev pub IsLimited : ℤ → Type 0
IsLimited x = unsigned_abs x ≤ max_value

-- each number is from -10^24 to 10^24
abbrev pub AllLimited : List ℤ → Type 0
AllLimited xs = AllWithin max_value xs
