-- The decimal mark of a table, if its plan does not give one.
use Rattle.std.specs.Prelude.{◌≡◌, ℕ, ◌<◌, ◌≤◌, ◌⊎◌, ◌==◌, ◌||◌, Bool, not, true, List, [], length, Option, Some, None, slice_index_or}
use Rattle.std.specs.List.{list_all}
use Rattle.plan_table.specs.Numerals.{is_nothing, is_spelled, number_bytes}
use Rattle.plan_table.specs.declared.numeral.DecimalMark.{DecimalMark}
use Rattle.plan_table.specs.declared.numeral.DecimalMark.TheVariants.{Point, Comma}

-- a word is a number with this mark, or is empty
unfoldable pub IsWritten : DecimalMark → List ℕ → Type 0
IsWritten mark word = (is_nothing word || is_spelled mark (number_bytes word)) ≡ true

-- a byte is neither a point nor a comma
abbrev pub is_no_mark : ℕ → Bool
is_no_mark b = not (b == 46 || b == 44)

-- no byte of a word is one
abbrev pub IsUnmarked : List ℕ → Type 0
IsUnmarked word = list_all is_no_mark word ≡ true

-- this holds for each field of the records from number first on, and before number end
abbrev pub AreEach : (List ℕ → Type 0) → List (List (List ℕ)) → ℕ → ℕ → Type 0
AreEach IsSo rows first end =
    (i k : ℕ) → i < length rows → first ≤ k → k < end → IsSo (slice_index_or (slice_index_or rows i []) k [])

-- the mark is the one that is given; or it is a comma, if all fields are numbers with it and not all with a point; or a point, if not
-- all are numbers with a comma, or if none has a mark, so that both read the same
abbrev pub IsMark : Option DecimalMark → List (List (List ℕ)) → ℕ → ℕ → DecimalMark → Type 0
IsMark (Some given) rows first end mark = mark ≡ given
IsMark None rows first end Comma = AreEach (IsWritten Comma) rows first end × (AreEach (IsWritten Point) rows first end → ⊥)
IsMark None rows first end Point = (AreEach (IsWritten Comma) rows first end → ⊥) ⊎ AreEach IsUnmarked rows first end
