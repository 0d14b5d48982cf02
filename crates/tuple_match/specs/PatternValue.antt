use Rattle.std.specs.Prelude.{◌≡◌, List}
use Rattle.std.specs.List.{AllZip}
use Rattle.tuple_match.specs.FieldValue.{FieldValue, number, word, numbers, IsField}

-- one part of a template (Gelernter 1985): an actual, which is a field, or a formal, which is a type
pub data PatternValue : Type 0 where
  actual : FieldValue → PatternValue
  any_number : PatternValue
  any_word : PatternValue
  any_numbers : PatternValue

-- the limits of one pattern, this project's own: those of its field, if it has one
abbrev pub IsPattern : PatternValue → Type 0
IsPattern (actual field) = IsField field
IsPattern any_number = Unit {0}
IsPattern any_word = Unit {0}
IsPattern any_numbers = Unit {0}

-- an actual equals the field, in type and value; a formal has the field's type (Gelernter 1985)
abbrev pub FieldMatches : PatternValue → FieldValue → Type 0
FieldMatches (actual wanted) field = wanted ≡ field
FieldMatches any_number (number n) = Unit {0}
FieldMatches any_word (word bytes) = Unit {0}
FieldMatches any_numbers (numbers ns) = Unit {0}
FieldMatches _ _ = ⊥

-- a template and a tuple match: they have equal lengths, and match part by part (Gelernter 1985)
abbrev pub Matches : List PatternValue → List FieldValue → Type 0
Matches template tuple = AllZip FieldMatches template tuple
