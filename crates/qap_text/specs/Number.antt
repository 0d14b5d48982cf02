-- Words that are whole numbers: an optional sign, and one or more decimal digits.
use Rattle.std.specs.Prelude.{◌==◌, if◌then◌else◌, ℕ, List, [], ◌∷◌, ℤ, pos, neg_ℤ, Option, None}
use Rattle.std.specs.Option.{option_map}
use Rattle.qap_io.specs.Digits.{unsigned_number_of}

-- the number that a word spells, with `+`, with `-` or with no sign; None if it spells none
abbrev pub number_of : List ℕ → Option ℤ
number_of [] = None
number_of (b ∷ bs) =
    if b == 43 then option_map pos (unsigned_number_of bs)
    else if b == 45 then option_map (λ n. neg_ℤ (pos n)) (unsigned_number_of bs)
    else option_map pos (unsigned_number_of (b ∷ bs))
