-- What is added to a record. The possible texts of a record are a property of texts: a record in memory has one, and one that stores
-- nothing may have any.
use Rattle.std.specs.Prelude.{ℕ, ◌+◌, ◌++◌, ◌∷◌, [], List, pos}
use Rattle.qap_lines.specs.LineText.{numbers_text}
use Rattle.qap_proof.specs.Text.{letter}
use Rattle.qap_proof.specs.declared.side.Side.{Side}

-- this text is added
pub record Adds (old new : List ℕ → Type 0) (added : List ℕ) : Type 0 where
  pub each : (t : List ℕ) → old t → new (t ++ added)

-- some text is added
pub record Extends (old new : List ℕ → Type 0) : Type 0 where
  pub each : (t : List ℕ) → old t → (added : List ℕ) × new (t ++ added)

-- a split's line up to the marks of its children
abbrev pub front_text : Side → ℕ → List ℕ
front_text side number = letter side ++ numbers_text (pos (number + 1) ∷ []) ++ 32 ∷ []
