-- Numbers rounded to a given number of decimals, half away from zero.
use Rattle.std.specs.Prelude.{ℕ, ◌+◌, ◌-◌, ◌*◌, ◌/◌, ◌^◌, ◌==◌, Bool, true, false, nat_le, if◌then◌else◌, List, [], ◌∷◌, Option, None}
use Rattle.std.specs.Option.{option_map}
use Rattle.plan_table.specs.Decimal.{unsigned_of, with_sign}
use Rattle.plan_table.specs.declared.decimal.Decimal.{Decimal}
use Rattle.plan_table.specs.declared.decimal.Unsigned.{Unsigned}

-- the whole number nearest to m / k, halves rounded up
abbrev pub nearest : ℕ → ℕ → ℕ
nearest m k = (2 * m + k) / (2 * k)

-- one if the first of some digits is 5 or more, else zero
abbrev pub carry : List ℕ → ℕ
carry [] = 0
carry (b ∷ bs) = if nat_le 53 b then 1 else 0

-- a number without its sign, rounded: one that has no more decimals is unchanged
abbrev pub rounded : ℕ → Unsigned → Unsigned
rounded places u =
    if nat_le u.places places then u else record { magnitude = nearest u.magnitude (10 ^ (u.places - places)); places = places }

-- likewise with a sign, which rounds a half away from zero
abbrev pub rounded_signed : ℕ → Bool → List ℕ → Option Decimal
rounded_signed places negative word = option_map (with_sign negative) (option_map (rounded places) (unsigned_of word))

-- the number that a plain text spells, rounded, if any
abbrev pub rounded_decimal_of : ℕ → List ℕ → Option Decimal
rounded_decimal_of places [] = None
rounded_decimal_of places (b ∷ bs) =
    if b == 43 then rounded_signed places false bs else if b == 45 then rounded_signed places true bs else rounded_signed places false (b ∷ bs)
