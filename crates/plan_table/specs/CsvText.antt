-- Texts in CSV (RFC 4180), where a semicolon or a tab may replace the comma, and a line may also end with a line feed alone.
use Rattle.std.specs.Prelude.{◌≡◌, ◌==◌, ℕ, List, [], ◌∷◌, ◌++◌, if◌then◌else◌}
use Rattle.plan_table.specs.Marks.{byte_of, mark_of}
use Rattle.plan_table.specs.declared.csv_text.Mark.TheVariants.{Other}
use Rattle.plan_table.specs.declared.separator.Separator.{Separator}

-- a field is written plainly, or in quotes
pub data Field : Type 0 where
  bare : List ℕ → Field
  quoted : List ℕ → Field

-- no quote, separator or end of a line is among the bytes
abbrev pub AreOthers : Separator → List ℕ → Type 0
AreOthers d [] = Unit {0}
AreOthers d (b ∷ bs) = (mark_of d b ≡ Other) × AreOthers d bs

-- one that has such a byte is in quotes
abbrev pub IsField : Separator → Field → Type 0
IsField d (bare bs) = AreOthers d bs
IsField d (quoted bs) = Unit {0}

-- each quote doubled
abbrev pub doubled : List ℕ → List ℕ
doubled [] = []
doubled (b ∷ bs) = if b == 34 then 34 ∷ 34 ∷ doubled bs else b ∷ doubled bs

-- a field's bytes plainly, or in quotes with each quote doubled
abbrev pub field_text : Field → List ℕ
field_text (bare bs) = bs
field_text (quoted bs) = 34 ∷ doubled bs ++ 34 ∷ []

-- a separator, a line feed, or a carriage return with a line feed
pub data Ending : Type 0 where
  divider : Ending
  feed : Ending
  return_feed : Ending

-- the bytes of what follows a field
abbrev pub ending_text : Separator → Ending → List ℕ
ending_text d divider = byte_of d ∷ []
ending_text d feed = 10 ∷ []
ending_text d return_feed = 13 ∷ 10 ∷ []

-- a field with what follows it
pub record Piece : Type 0 where
  pub field : Field
  pub ending : Ending

-- each field that contains a quote, a separator or an end of a line is in quotes
abbrev pub ArePieces : Separator → List Piece → Type 0
ArePieces d [] = Unit {0}
ArePieces d (p ∷ ps) = IsField d p.field × ArePieces d ps

-- these, and a last field with nothing after it
abbrev pub csv_text : Separator → List Piece → Field → List ℕ
csv_text d [] last = field_text last
csv_text d (p ∷ ps) last = field_text p.field ++ (ending_text d p.ending ++ csv_text d ps last)

-- the text is written so
pub record IsCsv (d : Separator) (text : List ℕ) : Type 0 where
  pub pieces : List Piece
  pub last : Field
  pub fields : ArePieces d pieces
  pub ends : IsField d last
  pub is : text ≡ csv_text d pieces last
