-- The lines of an answer with names.
use Rattle.std.specs.Prelude.{ℕ, ◌+◌, Bool, List, [], ◌∷◌, ◌++◌, Option, None, Some, codes, if◌then◌else◌, ◌==◌, slice_index_or}
use Rattle.std.specs.Fmt.{decimal}
use Rattle.std.specs.List.{list_any}

-- a department is at a place
abbrev pub stands_line : List ℕ → List ℕ → List ℕ
stands_line department place = department ++ codes " at " ++ place ++ codes "\n"

-- the departments, in order, at the places with these numbers
abbrev pub stands_lines : List (List ℕ) → List (List ℕ) → List ℕ → List ℕ
stands_lines [] places locations = []
stands_lines (d ∷ ds) places [] = []
stands_lines (d ∷ ds) places (k ∷ ks) = stands_line d (slice_index_or places k []) ++ stands_lines ds places ks

-- no department is at a place
abbrev pub empty_line : List ℕ → List ℕ
empty_line place = place ++ codes " stays empty\n"

-- of the places from number k on, those that are not taken
abbrev pub empty_lines : ℕ → List (List ℕ) → List ℕ → List ℕ
empty_lines k [] taken = []
empty_lines k (n ∷ ns) taken = (if list_any (λ l. k == l) taken then [] else empty_line n) ++ empty_lines (k + 1) ns taken

-- the arrangements that the proof covers: if something is fixed, those that respect it
abbrev pub kept_text : Bool → List ℕ
kept_text is_fixed = if is_fixed then codes " among arrangements that keep what is fixed" else []

-- after the words for the cost: the bounds of the least one
abbrev pub open_verdict : List ℕ → List ℕ → List ℕ → List ℕ → List ℕ
open_verdict cost bound kept apart =
    codes ", within " ++ bound ++ codes " to " ++ cost ++ kept ++ codes ", proved" ++ apart ++ codes "\n"

-- what is proved about the cost, from the words for the cost, its bound, what is fixed, and the gap
abbrev pub verdict_line : Bool → List ℕ → List ℕ → List ℕ → List ℕ → List ℕ
verdict_line is_open cost bound kept apart =
    if is_open
    then codes "cost " ++ cost ++ open_verdict cost bound kept apart
    else codes "cost " ++ cost ++ codes ", optimal" ++ kept ++ codes ", proved\n"

-- the number of decimals to which the tables' numbers were rounded, if they were
abbrev pub rounded_text : Option ℕ → List ℕ
rounded_text None = []
rounded_text (Some places) = codes "numbers rounded, decimals kept: " ++ decimal places ++ codes "\n"
