-- Names that a reader would confuse.
use Rattle.std.specs.Prelude.{◌≢◌, ℕ, ◌<◌, ◌==◌, not, List, [], length, slice_index_or}
use Rattle.std.specs.List.{filter}
use Rattle.std.specs.StrCase.Lower.{str_to_lowercase}

-- a name in lower case and without blanks
abbrev pub folded : List ℕ → List ℕ
folded name = filter (λ b. not (b == 32)) (str_to_lowercase name)

-- no two of the names differ only in case and blanks
pub record AreUnlike (names : List (List ℕ)) : Type 0 where
  pub once : (j k : ℕ) → j < k → k < length names → folded (slice_index_or names j []) ≢ folded (slice_index_or names k [])
