-- Texts of solutions as they are written: each solution has exactly one.
use Rattle.std.specs.Prelude.{ℕ, ◌+◌, List, [], ◌∷◌, ◌++◌, length, ℤ, codes}
use Rattle.std.specs.Fmt.{decimal, signed_decimal}

-- locations, counted from 1, each after a space
abbrev pub behind_spaces : List ℕ → List ℕ
behind_spaces [] = []
behind_spaces (k ∷ p) = codes " " ++ decimal (k + 1) ++ behind_spaces p

-- locations, counted from 1, separated by a space
abbrev pub locations_text : List ℕ → List ℕ
locations_text [] = []
locations_text (k ∷ p) = decimal (k + 1) ++ behind_spaces p

-- a line of the size and the objective value, and a line of the locations
abbrev pub solution_text : ℤ → List ℕ → List ℕ
solution_text value p = decimal (length p) ++ codes " " ++ signed_decimal value ++ codes "\n" ++ locations_text p ++ codes "\n"
