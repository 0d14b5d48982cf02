-- The size of a matrix with names.
use Rattle.std.specs.Prelude.{◌≡◌, ℕ, ◌*◌, ◌≤◌, List, length, All, ℤ, unsigned_abs}
use Rattle.plan_table.specs.Decimal.{max_entry}
use Rattle.plan_table.specs.Names.{AreNames}

-- 1 to 256 distinct names, and for each two of them an entry from -10^9 to 10^9
pub record IsNamedSquare (names : List (List ℕ)) (entries : List ℤ) : Type 0 where
  pub named : AreNames names
  pub square : length entries ≡ length names * length names
  pub in_range : All (λ z. unsigned_abs z ≤ max_entry) entries
