-- Fields and patterns as the words of a script spell them.
use Rattle.std.specs.Prelude.{◌≡◌, ℕ, Bool, ◌==◌, List, [], ◌∷◌, ◌++◌, ℤ, codes}
use Rattle.std.specs.List.{AllZip, slice_split}
use Rattle.tuple_match.specs.FieldValue.{FieldValue, number, word, numbers}
use Rattle.tuple_match.specs.PatternValue.{PatternValue, actual, any_number, any_word, any_numbers}
use Rattle.tuple_match.specs.Template.{IsTemplate}
use Rattle.tuple_match.specs.Tuple.{IsTuple}
use Rattle.tuple_match.specs.Word.{IsWord}
use Rattle.space_script.specs.Number.{IsInteger}

-- a comma
abbrev pub is_comma : ℕ → Bool
is_comma byte = byte == 44

-- numbers separated by single commas, or nothing
abbrev pub AreNumbers : List ℕ → List ℤ → Type 0
AreNumbers [] zs = zs ≡ []
AreNumbers (b ∷ bs) zs = AllZip IsInteger (slice_split is_comma (b ∷ bs)) zs

-- the word of a list: numbers in brackets
pub record IsListWord (text : List ℕ) (zs : List ℤ) : Type 0 where
  pub inner : List ℕ
  pub is : text ≡ 91 ∷ inner ++ 93 ∷ []
  pub numbers : AreNumbers inner zs

-- the word of a field
abbrev pub IsFieldWord : List ℕ → FieldValue → Type 0
IsFieldWord text (number z) = IsInteger text z
IsFieldWord text (word bytes) = (text ≡ bytes) × IsWord bytes
IsFieldWord text (numbers zs) = IsListWord text zs

-- the words of a tuple's fields
pub record AreTupleWords (words : List (List ℕ)) (fields : List FieldValue) : Type 0 where
  pub each : AllZip IsFieldWord words fields
  pub limits : IsTuple fields

-- the word of a formal: a question mark and a type's letter
abbrev pub IsFormal : List ℕ → PatternValue → Type 0
IsFormal text (actual field) = ⊥
IsFormal text any_number = text ≡ codes "?i"
IsFormal text any_word = text ≡ codes "?w"
IsFormal text any_numbers = text ≡ codes "?l"

-- the word of a pattern: that of a field, or of a formal
abbrev pub IsPatternWord : List ℕ → PatternValue → Type 0
IsPatternWord text (actual field) = IsFieldWord text field
IsPatternWord text formal = IsFormal text formal

-- the words of a template's patterns
pub record AreTemplateWords (words : List (List ℕ)) (patterns : List PatternValue) : Type 0 where
  pub each : AllZip IsPatternWord words patterns
  pub limits : IsTemplate patterns
