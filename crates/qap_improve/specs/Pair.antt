-- Exchanges that a search may make.
use Rattle.std.specs.Prelude.{ℕ, ◌<◌, List, Bool}
use Rattle.qap_improve.specs.Moving.{Moves}
use Rattle.qap_improve.specs.declared.choice.Choice.{Choice}

-- of two of n facilities, both of which may move
pub record ArePair (n : ℕ) (may_move : List Bool) (first second : ℕ) : Type 0 where
  pub within : second < n
  pub first_moves : Moves may_move first
  pub second_moves : Moves may_move second

-- the choice is two of n facilities, the smaller one first, both of which may move
pub record IsPair (n : ℕ) (may_move : List Bool) (choice : Choice) : Type 0 where
  pub order : choice.first < choice.second
  pub pair : ArePair n may_move choice.first choice.second

-- two that may move if they are in order, else none
abbrev pub IsPairIfAny : ℕ → List Bool → ℕ → ℕ → Type 0
IsPairIfAny n may_move first second = first < second → ArePair n may_move first second
