-- Why the number of a decimal number's places is minimal.
use Rattle.std.specs.Prelude.{◌≡◌, ℕ, ◌^◌, ℤ, pos, ◌*ℤ◌}
use Rattle.plan_table.specs.declared.decimal.Decimal.{Decimal}

-- number / 10^places, times 10^power, is the whole number z
abbrev pub IsWholeAt : Decimal → ℕ → ℤ → Type 0
IsWholeAt d power z = d.number *ℤ pos (10 ^ power) ≡ z *ℤ pos (10 ^ d.places)
