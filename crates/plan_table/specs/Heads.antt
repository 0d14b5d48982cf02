-- First lines that name the columns.
use Rattle.std.specs.Prelude.{◌≡◌, ℕ, List, map, take}
use Rattle.std.specs.Char.{to_ascii_lowercase}

-- the first three fields are these words, in upper or lower case
abbrev pub IsHead : List (List ℕ) → List (List ℕ) → Type 0
IsHead words head = map (λ (word : List ℕ). map to_ascii_lowercase word) (take 3 head) ≡ words
