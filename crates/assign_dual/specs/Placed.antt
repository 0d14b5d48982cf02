-- The first rows of a matrix, as the lists of the code store their assignment.
use Rattle.std.specs.Prelude.{ℕ, ℤ, List, map}
use Rattle.assign_dual.specs.declared.room.Room.{Room}
use Rattle.assign_dual.specs.Partial.{IsPartial}
use Rattle.assign_dual.specs.Square.{square_of}

-- this many rows of a matrix of size n are assigned, at least cost, as the duals prove; `value` is the number
-- that a number of the code represents
abbrev pub IsPlaced : {X : Type 0} → (X → ℤ) → ℕ → List X → ℕ → List ℕ → Room X → Type 0
IsPlaced value n entries rows matching room =
    IsPartial (square_of n (map value entries)) rows matching room.row_of.now (map value room.u.now) (map value room.v.now)
