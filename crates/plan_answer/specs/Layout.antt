-- An arrangement as CSV: a line for each department with its place.
use Rattle.std.specs.Prelude.{ℕ, Bool, List, [], ◌∷◌, ◌++◌, ◌==◌, ◌||◌, codes, if◌then◌else◌, map, slice_index_or, string_bytes}
use Rattle.std.specs.List.{list_any}
use Rattle.plan_table.specs.CsvText.{doubled}
use Rattle.plan_file.specs.declared.tables.NamedProblem.{NamedProblem}

-- a byte that requires its field to be quoted: a quote, or one that may separate fields
abbrev pub is_special : ℕ → Bool
is_special b = b == 34 || (b == 44 || b == 59)

-- a name as a field of CSV
abbrev pub csv_field : List ℕ → List ℕ
csv_field name = if list_any is_special name then codes "\"" ++ doubled name ++ codes "\"" else name

-- a department with its place
abbrev pub csv_line : List ℕ → List ℕ → List ℕ
csv_line department place = csv_field department ++ codes "," ++ csv_field place ++ codes "\n"

-- the departments, in order, at the places with these numbers
abbrev pub csv_lines : List (List ℕ) → List (List ℕ) → List ℕ → List ℕ
csv_lines [] places locations = []
csv_lines (d ∷ ds) places [] = []
csv_lines (d ∷ ds) places (k ∷ ks) = csv_line d (slice_index_or places k []) ++ csv_lines ds places ks

-- a first line, and a line for each department
abbrev pub layout_text : NamedProblem → List ℕ → List ℕ
layout_text P p = codes "department,place\n" ++ csv_lines (map string_bytes P.departments.items) (map string_bytes P.places.items) p
