-- Decimal digits and their values.
use Rattle.std.specs.Prelude.{◌≡◌, ℕ, ◌-◌, ◌≤◌, ◌<◌, ◌⊎◌, Bool, ◌&&◌, nat_le, if◌then◌else◌, List, [], ◌∷◌, length, map, take, min, Option, Some, None, slice_index}
use Rattle.std.specs.List.{list_all}
use Rattle.std.specs.Int.Digits.{number_from_digits}

-- whether a byte is a decimal digit, `0` to `9`
abbrev pub is_digit : ℕ → Bool
is_digit b = nat_le 48 b && nat_le b 57

-- a byte that is not a decimal digit
abbrev pub IsNoDigit : ℕ → Type 0
IsNoDigit b = (b < 48) ⊎ (57 < b)

-- the value of decimal digits
abbrev pub magnitude_of : List ℕ → ℕ
magnitude_of digits = number_from_digits 10 (map (λ b. b - 48) digits)

-- the value of one or more digits; None if there are none, or another byte
abbrev pub unsigned_number_of : List ℕ → Option ℕ
unsigned_number_of [] = None
unsigned_number_of (b ∷ bs) = if list_all is_digit (b ∷ bs) then Some (magnitude_of (b ∷ bs)) else None

-- the text begins with this many digits
pub record BeginsWithDigits (text : List ℕ) (count : ℕ) : Type 0 where
  pub in_text : count ≤ length text
  pub each : (i : ℕ) → i < count → (48 ≤ slice_index text i) × (slice_index text i ≤ 57)

-- the text begins with exactly this many digits, and this is their value, clamped to a bound
pub record IsRun (text : List ℕ) (bound count magnitude : ℕ) : Type 0 where
  pub digits : BeginsWithDigits text count
  pub longest : IsNoDigit (slice_index text count)
  pub value : magnitude ≡ min (magnitude_of (take count text)) bound
