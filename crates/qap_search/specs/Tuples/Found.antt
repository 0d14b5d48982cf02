-- The content of a tuple that a search holds, by what it is requested as.
use Rattle.std.specs.Prelude.{◌≡◌, ℕ, Bool, List, [], ◌∷◌, codes}
use Rattle.qap_cost.specs.Instance.{Problem}
use Rattle.qap_cost.specs.Objective.{Permutes, cost_of}
use Rattle.qap_cost.specs.Placement.{Placement, IsPlacement}
use Rattle.tuple_match.specs.FieldValue.{FieldValue, word}
use Rattle.tuple_match.specs.Matching.{does_match}
use Rattle.tuple_match.specs.PatternValue.{PatternValue, actual, any_number, any_numbers}
use Rattle.qap_search.specs.Tuples.Piece.{node_tuple}
use Rattle.qap_search.specs.Law.Replacement.{Best, tuple_of}

-- the tuple of the incumbent: the word, any number and any list
abbrev pub best_template : List PatternValue
best_template = actual (word (codes "best")) ∷ any_number ∷ any_numbers ∷ []

-- the test for the tuple of an incumbent
abbrev pub is_best : List FieldValue → Bool
is_best tuple = does_match best_template tuple

-- the tuple is that of an open node of size n
pub record IsOpenNode (n : ℕ) (tuple : List FieldValue) : Type 0 where
  pub node : Placement
  pub placement : IsPlacement node
  pub size : node.size ≡ n
  pub is : tuple ≡ node_tuple node

-- the tuple is that of a permutation of the instance and its cost
pub record IsBestFound (I : Problem) (tuple : List FieldValue) : Type 0 where
  pub best : Best
  pub permutes : Permutes I best.permutation
  pub costs : cost_of I best.permutation ≡ best.cost
  pub is : tuple ≡ tuple_of best
