-- Texts of numbers over a power of ten.
use Rattle.std.specs.Prelude.{◌≡◌, ℕ, ◌^◌, ◌≤◌, List, [], ◌∷◌, ◌++◌, Option, Some, ℤ, pos, negsuc, ◌*ℤ◌, unsigned_abs}
use Rattle.plan_table.specs.Decimal.{decimal_of, max_number}
use Rattle.plan_table.specs.Least.{IsWholeAt}
use Rattle.plan_table.specs.declared.decimal.Decimal.{Decimal}

-- the text spells number / 10^places
pub record Spells (text : List ℕ) (number : ℤ) (places : ℕ) : Type 0 where
  pub decimal : Decimal
  pub spelled : decimal_of text ≡ Some decimal
  pub same : decimal.number *ℤ pos (10 ^ places) ≡ number *ℤ pos (10 ^ decimal.places)

-- it does not spell a number from -10^36 to 10^36 over this power
abbrev pub SpellsNone : List ℕ → ℕ → Type 0
SpellsNone text places = (z : ℤ) → unsigned_abs z ≤ max_number → ¬ Spells text z places

-- it spells this number, one of these, and no other
pub record SpellsJust (text : List ℕ) (places : ℕ) (number : ℤ) : Type 0 where
  pub spells : Spells text number places
  pub small : unsigned_abs number ≤ max_number
  pub once : (z : ℤ) → Spells text z places → z ≡ number

-- a decimal number, if there is one, equals no such number over 10^places
abbrev pub IsWorthNone : Option Decimal → ℕ → Type 0
IsWorthNone spelled places = (d : Decimal) → spelled ≡ Some d → (z : ℤ) → unsigned_abs z ≤ max_number → ¬ IsWholeAt d places z

-- there is one, and it is this number
abbrev pub IsWorth : Option Decimal → ℕ → ℤ → Type 0
IsWorth spelled places z = (d : Decimal) × (spelled ≡ Some d) × (unsigned_abs z ≤ max_number) × IsWholeAt d places z

-- a minus if the number is negative
abbrev pub sign_text : ℤ → List ℕ
sign_text (pos n) = []
sign_text (negsuc n) = 45 ∷ []

-- digits, and if there are any after the point, the point and these
abbrev pub pointed_text : List ℕ → List ℕ → List ℕ
pointed_text whole [] = whole
pointed_text whole (b ∷ bs) = whole ++ 46 ∷ b ∷ bs
