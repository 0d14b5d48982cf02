-- The rows of departments and places (HTML, 4.9).
use Rattle.std.specs.Prelude.{ℕ, ◌+◌, List, [], ◌∷◌, ◌++◌, codes, if◌then◌else◌, ◌==◌, length, map, slice_index_or, string_bytes, take}
use Rattle.std.specs.List.{concat, list_any}
use Rattle.plan_file.specs.declared.tables.NamedProblem.{NamedProblem}
use Rattle.plan_picture.specs.Escaping.{escaped}

-- the beginning of a row
abbrev pub row_start : List ℕ
row_start = codes "<tr><td>"

-- between two cells
abbrev pub cell : List ℕ
cell = codes "</td><td>"

-- the end of a row
abbrev pub row_end : List ℕ
row_end = codes "</td></tr>\n"

-- the beginning of the row of a place without a department
abbrev pub empty_start : List ℕ
empty_start = codes "<tr class=\"empty\"><td>stays empty</td><td>"

-- a department and its place
abbrev pub place_row : List ℕ → List ℕ → List ℕ
place_row department place =
    concat (row_start ∷ escaped department ∷ cell ∷ escaped place ∷ row_end ∷ [])

-- the departments, in order, at the places with these numbers
abbrev pub place_rows : List (List ℕ) → List (List ℕ) → List ℕ → List ℕ
place_rows [] places locations = []
place_rows (d ∷ ds) places [] = []
place_rows (d ∷ ds) places (k ∷ ks) = place_row d (slice_index_or places k []) ++ place_rows ds places ks

-- a place without a department
abbrev pub empty_row : List ℕ → List ℕ
empty_row place = concat (empty_start ∷ escaped place ∷ row_end ∷ [])

-- of the places from number k on, those that are not taken
abbrev pub empty_rows : ℕ → List (List ℕ) → List ℕ → List ℕ
empty_rows k [] taken = []
empty_rows k (n ∷ ns) taken = (if list_any (λ l. k == l) taken then [] else empty_row n) ++ empty_rows (k + 1) ns taken

-- the place of each department, and the places that stay empty
abbrev pub places_table : NamedProblem → List ℕ → List ℕ
places_table P p =
    place_rows (map string_bytes P.departments.items) (map string_bytes P.places.items) p
    ++ empty_rows 0 (map string_bytes P.places.items) (take (length P.departments.items) p)
