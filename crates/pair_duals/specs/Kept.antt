-- Residuals of pairs that are kept in a table.
use Rattle.std.specs.Prelude.{◌≡◌, ℕ, ◌+◌, ◌*◌, ◌<◌, List, length, ℤ}
use Rattle.qap_cost.specs.Instance.{Problem, entry}
use Rattle.pair_duals.specs.PairDuals.{Duals, cube, residual}

-- the instance and the pair duals whose residuals are kept
pub record Kept : Type 0 where
  pub problem : Problem
  pub duals : Duals

-- the row of the table for facility i with facility j at location l, one column for each location of i
abbrev pub kept_row : ℕ → ℕ → ℕ → ℕ → ℕ
kept_row m i j l = (j * m + l) * m + i

-- the residuals in so many first rows of the table, which has a row for each facility i, facility j and location l
pub record AreKept (I : Problem) (D : Duals) (rows : ℕ) (table : List ℤ) : Type 0 where
  pub count : length table ≡ cube (length D.facilities) * length D.facilities
  pub each : (i k j l : ℕ) → i < length D.facilities → k < length D.facilities → j < length D.facilities → l < length D.facilities
      → kept_row (length D.facilities) i j l < rows → entry (length D.facilities) table (kept_row (length D.facilities) i j l) k ≡ residual I D i k j l
