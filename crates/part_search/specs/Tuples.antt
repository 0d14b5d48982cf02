-- The tuples of a search on parts: one for each open node, and one for the incumbent.
use Rattle.std.specs.Prelude.{◌≡◌, ℕ, ℤ, pos, Bool, List, [], ◌∷◌, codes, count_by, map}
use Rattle.qap_cost.specs.Placement.{Placement}
use Rattle.tuple_match.specs.FieldValue.{FieldValue, number, word, numbers}
use Rattle.tuple_match.specs.Matching.{does_match}
use Rattle.tuple_match.specs.PatternValue.{PatternValue, actual, any_number, any_numbers}
use Rattle.subtree_search.specs.Best.{Best}
use Rattle.part_search.specs.declared.open_node.Open.{Open}

-- a node whose completions remain to be searched, and the value proved for it, in units of cost
pub record OpenNode : Type 0 where
  pub node : Placement
  pub value : ℤ

-- an open node as the tuples represent it
abbrev pub open_of : Open → OpenNode
open_of o = record { node = o.node; value = o.value }

-- the word, the placed facilities, their locations, both in the order of placement, and the value
abbrev pub node_tuple : OpenNode → List FieldValue
node_tuple o = word (codes "node") ∷ numbers (map pos o.node.facilities) ∷ numbers (map pos o.node.places) ∷ number o.value ∷ []

-- the word, the cost, and the location of each facility
abbrev pub best_tuple : Best → List FieldValue
best_tuple b = word (codes "best") ∷ number b.cost ∷ numbers (map pos b.permutation) ∷ []

-- any open node
abbrev pub node_template : List PatternValue
node_template = actual (word (codes "node")) ∷ any_numbers ∷ any_numbers ∷ any_number ∷ []

-- the incumbent
abbrev pub best_template : List PatternValue
best_template = actual (word (codes "best")) ∷ any_number ∷ any_numbers ∷ []

-- the tuple is that of an open node
abbrev pub is_open : List FieldValue → Bool
is_open tuple = does_match node_template tuple

-- how many of the tuples are of open nodes
abbrev pub open_count : List (List FieldValue) → ℕ
open_count tuples = count_by is_open tuples

-- the tuple is that of an open node of size n
pub record IsReadOf (n : ℕ) (tuple : List FieldValue) (o : Open) : Type 0 where
  pub is : node_tuple (open_of o) ≡ tuple
  pub size : o.node.size ≡ n
