-- The line that states a lower bound on all permutations, and the cost of one.
use Rattle.std.specs.Prelude.{ℕ, List, ◌++◌, ℤ, codes}
use Rattle.std.specs.Fmt.{signed_decimal}

-- the line `gap G C`, where G is the bound and C the cost
abbrev pub gap_line : ℤ → ℤ → List ℕ
gap_line g c = codes "gap " ++ signed_decimal g ++ codes " " ++ signed_decimal c ++ codes "\n"
