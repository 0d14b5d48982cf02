-- Facilities that may move, and others that keep their locations.
use Rattle.std.specs.Prelude.{◌≡◌, ℕ, ◌<◌, List, length, Bool, true, slice_index, slice_index_or}

-- facility f may move
abbrev pub Moves : List Bool → ℕ → Type 0
Moves may_move f = slice_index_or may_move f true ≡ true

-- each facility that may not move keeps its location
abbrev pub KeepsOthers : List Bool → List ℕ → List ℕ → Type 0
KeepsOthers may_move old new = (f : ℕ) → f < length old → (Moves may_move f → ⊥) → slice_index new f ≡ slice_index old f
