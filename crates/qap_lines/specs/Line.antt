-- Lines of a text, and their numbers.
use Rattle.std.specs.Prelude.{◌≡◌, ◌≢◌, ℕ, ◌+◌, ◌-◌, ◌^◌, ◌<◌, ◌++◌, ◌∷◌, List, length, min, slice_index}

-- the number of the line that many lines after this one; lines past 2^64 - 1 all have that number
abbrev pub line_after : ℕ → ℕ → ℕ
line_after line count = min (line + count) (2 ^ 64 - 1)

-- no byte of the text ends a line
pub record HasNoLine (text : List ℕ) : Type 0 where
  pub each : (i : ℕ) → i < length text → slice_index text i ≢ 10

-- the first line of the text, without the line feed that ends it, and what follows it
pub record IsLine (text line rest : List ℕ) : Type 0 where
  pub is : text ≡ line ++ 10 ∷ rest
  pub first : HasNoLine line
