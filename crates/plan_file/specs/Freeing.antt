-- Which facilities of a node may move.
use Rattle.std.specs.Prelude.{ℕ, ◌<◌, List, Bool}
use Rattle.qap_cost.specs.Placement.{Placement, StandsAt}
use Rattle.qap_improve.specs.Moving.{Moves}

-- of the facilities below n, none that the node places may move
abbrev pub IsFixedBelow : Placement → ℕ → List Bool → Type 0
IsFixedBelow x n may_move = (f k : ℕ) → f < n → StandsAt x f k → Moves may_move f → ⊥
