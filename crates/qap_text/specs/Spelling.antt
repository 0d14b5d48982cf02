-- A text that spells numbers, word by word.
use Rattle.std.specs.Prelude.{◌≡◌, ℕ, List, [], ◌∷◌, ℤ, Some, None, slice_range}
use Rattle.qap_text.specs.Word.{IsWordAt}
use Rattle.qap_text.specs.Number.{number_of}

-- the next word from a position on is from start up to stop, and spells z
pub record IsNumberAt (text : List ℕ) (from start stop : ℕ) (z : ℤ) : Type 0 where
  pub word : IsWordAt text from start stop
  pub number : number_of (slice_range text start stop) ≡ Some z

-- the next word from a position on is at start, and is not a number
pub record IsNoNumberAt (text : List ℕ) (from start : ℕ) : Type 0 where
  pub stop : ℕ
  pub word : IsWordAt text from start stop
  pub no_number : number_of (slice_range text start stop) ≡ None

-- the words from one position up to another spell these numbers
abbrev pub Spells : List ℕ → ℕ → List ℤ → ℕ → Type 0
Spells text from [] stop = from ≡ stop
Spells text from (z ∷ zs) stop = (start middle : ℕ) × IsNumberAt text from start middle z × Spells text middle zs stop
