-- How far a cost may be above the least.
use Rattle.std.specs.Prelude.{◌≡◌, ℕ, ◌*◌, Bool, MatchBool, ◌&&◌, not, List, [], ◌++◌, ℤ, pos, codes, int_lt, ◌-ℤ◌, unsigned_abs}
use Rattle.std.specs.Int.{div_ceil}
use Rattle.qap_cost.specs.Limits.{max_value}
use Rattle.plan_table.specs.Spelling.{Spells}

-- the gap is stated if the bound is positive and no higher than the cost, which is within the range of costs
abbrev pub is_told : ℤ → ℤ → Bool
is_told c g = int_lt (pos 0) g && not (int_lt c g) && not (int_lt (pos max_value) c)

-- (c - g) / g in tenths of a percent, rounded up
abbrev pub tenths_above : ℤ → ℤ → ℕ
tenths_above c g = div_ceil (unsigned_abs (c -ℤ g) * 1000) (unsigned_abs g)

-- this number of tenths of a percent
pub record IsPercentText (tenths : ℤ) (text : List ℕ) : Type 0 where
  pub percent : List ℕ
  pub spelled : Spells percent tenths 1
  pub is : text ≡ codes ", at most " ++ percent ++ codes "% above the least"

-- the percentage if it is stated, else nothing
abbrev pub IsApartText : ℤ → ℤ → List ℕ → Type 0
IsApartText c g text = MatchBool (is_told c g) (IsPercentText (pos (tenths_above c g)) text) (text ≡ [])
