-- Bounds on numbers and on their differences.
use Rattle.std.specs.Prelude.{◌≡◌, ℕ, ◌+◌, ◌*◌, ◌^◌, ◌<◌, ◌≤◌, Bool, if◌then◌else◌, List, length, ℤ, pos, ◌+ℤ◌, ◌≤ℤ◌, slice_index_or, unsigned_abs}
use Rattle.qap_cost.specs.Instance.{Problem, entry}
use Rattle.pair_duals.specs.Limits.{Limits, reach}
use Rattle.pair_duals.specs.Reduced.{Form}

-- no scaled product of an entry of A and one of B is above the limit
pub record IsInScale (m : Limits) (I : Problem) (scale : ℕ) : Type 0 where
  pub below : (i j k l : ℕ) → i < I.size → j < I.size → k < I.size → l < I.size → scale * (unsigned_abs (entry I.size I.a i j) * unsigned_abs (entry I.size I.b k l)) ≤ m.cost

-- every number, and every difference of two of them, is within this bound
pub record IsSpread (reach : ℕ) (xs : List ℤ) : Type 0 where
  pub each : (j : ℕ) → j < length xs → unsigned_abs (slice_index_or xs j (pos 0)) ≤ reach
  pub apart : (i j : ℕ) → i < length xs → j < length xs → slice_index_or xs i (pos 0) ≤ℤ (slice_index_or xs j (pos 0) +ℤ pos reach)

-- the bound on the value
abbrev pub value_reach : ℕ → Bool → ℕ
value_reach depth is_lined = (2 * depth + (if is_lined then 2 else 1)) * 10 ^ 34

-- the numbers of a form are within the limits of a width
pub record IsInReach (m : Limits) (R : Form) : Type 0 where
  pub wide : length R.columns ≡ length R.rows
  pub count : length R.entries ≡ length R.rows * length R.rows
  pub deep : R.depth + length R.rows ≤ m.size
  pub entries : IsSpread (reach m R.depth R.is_lined) R.entries
  pub value : unsigned_abs R.value ≤ value_reach R.depth R.is_lined
