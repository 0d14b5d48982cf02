-- Locations that facilities may not take.
use Rattle.std.specs.Prelude.{◌≡◌, ℕ, ◌+◌, ◌*◌, ◌<◌, ◌≤◌, Bool, true, false, nat_lt, if◌then◌else◌, List, length, slice_index, slice_index_or}
use Rattle.qap_cost.specs.Limits.{max_size}
use Rattle.plan_charge.specs.declared.forbidden.Forbidden.{Forbidden}

-- of n facilities the first have a row each, with a cell for each of n locations; there is room for one more facility
-- for each of them among 256
pub record AreForbidden (n : ℕ) (f : Forbidden) : Type 0 where
  pub rows : f.count ≤ n
  pub room : n + f.count ≤ max_size
  pub counted : length f.cells.items ≡ f.count * n

-- whether facility i may not be at location k
abbrev pub is_forbidden : ℕ → Forbidden → ℕ → ℕ → Bool
is_forbidden n f i k = if nat_lt i f.count then slice_index_or f.cells.items (i * n + k) false else false

-- no facility is at a location that it may not take
abbrev pub UsesNone : ℕ → Forbidden → List ℕ → Type 0
UsesNone n f p = (i : ℕ) → i < f.count → is_forbidden n f i (slice_index p i) ≡ false

-- some facility is
pub record UsesSome (n : ℕ) (f : Forbidden) (p : List ℕ) : Type 0 where
  pub facility : ℕ
  pub has_row : facility < f.count
  pub taken : is_forbidden n f facility (slice_index p facility) ≡ true
