-- The unique text of a line of a name and numbers.
use Rattle.std.specs.Prelude.{ℕ, List, [], ◌∷◌, ◌++◌, length, ℤ, pos, codes}
use Rattle.std.specs.Fmt.{signed_decimal}
use Rattle.qap_io.specs.Number.{from_one}

-- numbers in decimal, each after one space
abbrev pub numbers_text : List ℤ → List ℕ
numbers_text [] = []
numbers_text (z ∷ zs) = 32 ∷ signed_decimal z ++ numbers_text zs

-- a line of a name and numbers
abbrev pub line_text : List ℕ → List ℤ → List ℕ
line_text name zs = name ++ numbers_text zs ++ 10 ∷ []

-- the lines that certificates and proofs begin with: the format and its version, the size, the cost, and the permutation
abbrev pub head_text : List ℕ → ℕ → ℤ → List ℕ → List ℕ
head_text name version cost permutation =
    line_text name (pos version ∷ []) ++ line_text (codes "n") (pos (length permutation) ∷ []) ++ line_text (codes "cost") (cost ∷ [])
    ++ line_text (codes "perm") (from_one permutation)
