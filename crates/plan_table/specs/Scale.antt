-- Decimal numbers made whole by one power of ten.
use Rattle.std.specs.Prelude.{◌≡◌, ℕ, ◌-◌, ◌^◌, ◌≤◌, ◌<◌, ⊤, List, length, map, slice_get, Some, All, ℤ, pos, ◌*ℤ◌, unsigned_abs}
use Rattle.plan_table.specs.Decimal.{max_entry}
use Rattle.plan_table.specs.declared.decimal.Decimal.{Decimal}
use Rattle.plan_table.specs.declared.scale.ScaleError.{ScaleError}
use Rattle.plan_table.specs.declared.scale.ScaleError.TheVariants.{OutOfMemory, TooLarge}

-- a number times a power of ten
abbrev pub shifted : ℤ → ℕ → ℤ
shifted number power = number *ℤ pos (10 ^ power)

-- number / 10^places, times 10^scale
abbrev pub scaled : ℕ → Decimal → ℤ
scaled scale d = shifted d.number (scale - d.places)

-- the least scale at which each number is whole: none has more places
pub record IsLeastScale (decimals : List Decimal) (scale : ℕ) : Type 0 where
  pub enough : All (λ d. d.places ≤ scale) decimals
  pub least : (t : ℕ) → All (λ d. d.places ≤ t) decimals → scale ≤ t

-- the entries are the numbers times 10^scale, each from -10^9 to 10^9
pub record AreScaled (scale : ℕ) (decimals : List Decimal) (entries : List ℤ) : Type 0 where
  pub exact : entries ≡ map (scaled scale) decimals
  pub in_range : All (λ z. unsigned_abs z ≤ max_entry) entries

-- the number at a position is outside -10^9 to 10^9 once it is scaled
abbrev pub IsScaleFault : ℕ → List Decimal → ScaleError → Type 0
IsScaleFault scale decimals (TooLarge i) =
    (i < length decimals) × (d : Decimal) × (slice_get decimals i ≡ Some d) × (max_entry < unsigned_abs (scaled scale d))
IsScaleFault scale decimals OutOfMemory = ⊤
