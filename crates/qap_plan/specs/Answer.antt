-- The text of an answer.
use Rattle.std.specs.Prelude.{ℕ, ◌+◌, List, [], ◌∷◌, ◌++◌, ℤ, codes, int_lt, if◌then◌else◌}
use Rattle.std.specs.Fmt.{decimal, signed_decimal}

-- facility i is at location k, both counted from 1
abbrev pub place_line : ℕ → ℕ → List ℕ
place_line i k = codes "facility " ++ decimal i ++ codes " at location " ++ decimal k ++ codes "\n"

-- the lines of the facilities from i on, with i and the locations counted from 0
abbrev pub place_lines : ℕ → List ℕ → List ℕ
place_lines i [] = []
place_lines i (k ∷ p) = place_line (i + 1) (k + 1) ++ place_lines (i + 1) p

-- what is proved about the cost
abbrev pub verdict_line : ℤ → ℤ → List ℕ
verdict_line c g =
    if int_lt g c
    then codes "cost " ++ signed_decimal c ++ codes ", within " ++ signed_decimal g ++ codes " to " ++ signed_decimal c ++ codes ", proved\n"
    else codes "cost " ++ signed_decimal c ++ codes ", optimal, proved\n"

-- a line for each facility, and one for the cost
abbrev pub answer_text : List ℕ → ℤ → ℤ → List ℕ
answer_text p c g = place_lines 0 p ++ verdict_line c g

-- what is stated about the cost
abbrev pub stated_line : ℤ → ℤ → List ℕ
stated_line c g =
    if int_lt g c
    then codes "cost " ++ signed_decimal c ++ codes ", stated within " ++ signed_decimal g ++ codes " to " ++ signed_decimal c ++ codes "\n"
    else codes "cost " ++ signed_decimal c ++ codes ", stated as optimal\n"

-- the same text if the bound is only stated
abbrev pub stated_text : List ℕ → ℤ → ℤ → List ℕ
stated_text p c g = place_lines 0 p ++ stated_line c g

-- the cost alone
abbrev pub cost_line : ℤ → List ℕ
cost_line c = codes "cost " ++ signed_decimal c ++ codes "\n"

-- what the proof of a part establishes, and when it was found
abbrev pub part_line : ℤ → ℤ → List ℕ → List ℕ
part_line c g when =
    if int_lt g c
    then codes "cost " ++ signed_decimal c ++ codes ", part within " ++ signed_decimal g ++ codes " to " ++ signed_decimal c ++ codes ", proved" ++ when ++ codes "\n"
    else codes "cost " ++ signed_decimal c ++ codes ", part complete, proved" ++ when ++ codes "\n"
