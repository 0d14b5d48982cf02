use Rattle.std.specs.Prelude.{Bool, true, false, ◌&&◌, List, [], ◌∷◌}
use Rattle.tuple_match.specs.FieldValue.{FieldValue, number, word, numbers}
use Rattle.tuple_match.specs.PatternValue.{PatternValue, actual, any_number, any_word, any_numbers}
use Rattle.tuple_match.specs.Equality.{field_eq}

-- `FieldMatches` as a test
abbrev pub does_field_match : PatternValue → FieldValue → Bool
does_field_match (actual wanted) field = field_eq wanted field
does_field_match any_number (number n) = true
does_field_match any_word (word bytes) = true
does_field_match any_numbers (numbers ns) = true
does_field_match _ _ = false

-- `Matches` as a test, by which entries are counted and kept
abbrev pub does_match : List PatternValue → List FieldValue → Bool
does_match [] [] = true
does_match (pattern ∷ patterns) (field ∷ fields) = does_field_match pattern field && does_match patterns fields
does_match _ _ = false
