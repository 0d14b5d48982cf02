-- Decimal numbers as the cells of a table spell them: an optional sign, digits, and optionally a point followed by
-- digits.
use Rattle.std.specs.Prelude.{◌≡◌, ℕ, ◌+◌, ◌-◌, ◌^◌, ◌<◌, ◌++◌, ◌==◌, Bool, true, false, not, ◌&&◌, nat_le, if◌then◌else◌, List, [], ◌∷◌, length, map, take, drop, min, position, Option, Some, None, pos, neg_ℤ, unsigned_abs}
use Rattle.std.specs.Option.{option_map}
use Rattle.std.specs.List.{list_all}
use Rattle.std.specs.Int.Digits.{number_from_digits}
use Rattle.plan_table.specs.declared.decimal.Decimal.{Decimal}
use Rattle.plan_table.specs.declared.decimal.Unsigned.{Unsigned}
use Rattle.plan_table.specs.declared.decimal.NumberFault.{NumberFault}
use Rattle.plan_table.specs.declared.decimal.NumberFault.TheVariants.{NotANumber, TooLarge}

-- the largest entry of an instance
abbrev pub max_entry : ℕ
max_entry = 1_000_000_000

-- the largest number that is distinguished from larger ones
abbrev pub max_number : ℕ
max_number = 10 ^ 36

-- a byte is a decimal digit
abbrev pub is_digit : ℕ → Bool
is_digit b = nat_le 48 b && nat_le b 57

-- one or more digits, and nothing else
abbrev pub are_digits : List ℕ → Bool
are_digits text = not (length text == 0) && list_all is_digit text

-- the number that digits represent
abbrev pub magnitude_of : List ℕ → ℕ
magnitude_of digits = number_from_digits 10 (map (λ b. b - 48) digits)

-- the same, clamped to one above the largest number
abbrev pub held_magnitude : List ℕ → ℕ
held_magnitude digits = min (magnitude_of digits) (max_number + 1)

-- a digit before others, which is omitted if it is a zero and none follows
abbrev pub before_kept : ℕ → List ℕ → List ℕ
before_kept b [] = if b == 48 then [] else b ∷ []
before_kept b (c ∷ cs) = b ∷ c ∷ cs

-- digits without trailing zeros
abbrev pub without_zeros : List ℕ → List ℕ
without_zeros [] = []
without_zeros (b ∷ bs) = before_kept b (without_zeros bs)

-- all digits form the number, those after the point its decimals
abbrev pub unsigned : List ℕ → List ℕ → Unsigned
unsigned whole fraction = record { magnitude = magnitude_of (whole ++ fraction); places = length fraction }

-- a number whose magnitude is clamped to one above the largest number
abbrev pub held_unsigned : Unsigned → Unsigned
held_unsigned u = record { magnitude = min u.magnitude (max_number + 1); places = u.places }

-- the digits before a point and those after it, whose trailing zeros do not count
abbrev pub pointed : List ℕ → List ℕ → Option Unsigned
pointed whole fraction =
    if are_digits whole && are_digits fraction then Some (unsigned whole (without_zeros fraction)) else None

-- a byte is a point
abbrev pub is_point : ℕ → Bool
is_point b = b == 46

-- the number that digits spell; none if a word is empty or has another byte
abbrev pub whole : List ℕ → Option Unsigned
whole digits = if are_digits digits then Some (unsigned digits []) else None

-- a word that has its first point at this position, or has none
abbrev pub unsigned_at : List ℕ → Option ℕ → Option Unsigned
unsigned_at word None = whole word
unsigned_at word (Some point) = pointed (take point word) (drop (point + 1) word)

-- the number that a word without a sign spells, if any
abbrev pub unsigned_of : List ℕ → Option Unsigned
unsigned_of word = unsigned_at word (position is_point word)

-- a number, negated if the sign is a minus
abbrev pub with_sign : Bool → Unsigned → Decimal
with_sign negative u = record {
  number = if negative then neg_ℤ (pos u.magnitude) else pos u.magnitude;
  places = u.places;
}

-- the number that a word spells after its sign, if any
abbrev pub signed_of : Bool → List ℕ → Option Decimal
signed_of negative word = option_map (with_sign negative) (unsigned_of word)

-- the decimal number that a word spells, with `+`, with `-` or with no sign: number / 10^places, if any
abbrev pub decimal_of : List ℕ → Option Decimal
decimal_of [] = None
decimal_of (b ∷ bs) =
    if b == 43 then signed_of false bs else if b == 45 then signed_of true bs else signed_of false (b ∷ bs)

-- a word spells no number, or one whose digits represent more than an entry may be, regardless of any power of ten
abbrev pub IsNumberFault : Option Decimal → NumberFault → Type 0
IsNumberFault spelled NotANumber = spelled ≡ None
IsNumberFault spelled TooLarge = (d : Decimal) × (spelled ≡ Some d) × (max_entry < unsigned_abs d.number)
