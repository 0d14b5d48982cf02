-- The tuples as which a search tree is stored: one for each of its nodes, and one for the incumbent.
use Rattle.std.specs.Prelude.{ℕ, Bool, List, [], ◌∷◌, ◌++◌, map, codes, ℤ, pos}
use Rattle.std.specs.List.{count_by}
use Rattle.qap_cost.specs.Placement.{Placement, free_locations, placing}
use Rattle.number_list.specs.Turns.{by_turns}
use Rattle.tuple_match.specs.FieldValue.{FieldValue, number, word, numbers}
use Rattle.tuple_match.specs.Matching.{does_match}
use Rattle.tuple_match.specs.PatternValue.{PatternValue, actual, any_numbers}
use Rattle.qap_search.specs.Law.SearchTree.{SearchTree, open_node, split_node, closed_node, SearchTrees, tree}

-- a node as a list: the placed facilities and their locations alternately, in the order of placement
abbrev pub node_list : Placement → List ℤ
node_list x = by_turns x.facilities x.places

-- x remains to be decided
abbrev pub node_tuple : Placement → List FieldValue
node_tuple x = word (codes "node") ∷ numbers (node_list x) ∷ []

-- x is split on facility f
abbrev pub split_tuple : Placement → ℕ → List FieldValue
split_tuple x f = word (codes "split") ∷ numbers (node_list x) ∷ number (pos f) ∷ []

-- x is closed by these duals
abbrev pub closed_tuple : Placement → List ℤ → List ℤ → List FieldValue
closed_tuple x u v = word (codes "closed") ∷ numbers (node_list x) ∷ numbers u ∷ numbers v ∷ []

-- the incumbent, and its cost
abbrev pub best_tuple : ℤ → List ℕ → List FieldValue
best_tuple c p = word (codes "best") ∷ number c ∷ numbers (map pos p) ∷ []

abbrev mutual
  -- a tuple for each node of the tree at x
  pub pieces : Placement → SearchTree → List (List FieldValue)
  pieces x open_node = node_tuple x ∷ []
  pieces x (split_node f children) = split_tuple x f ∷ pieces_of_all x f (free_locations x) children
  pieces x (closed_node u v) = closed_tuple x u v ∷ []

  -- those of the children, one for each of these locations of the facility
  pub pieces_of_all : Placement → ℕ → List ℕ → SearchTrees → List (List FieldValue)
  pieces_of_all x f (k ∷ ks) (tree t rest) = pieces (placing x f k) t ++ pieces_of_all x f ks rest
  pieces_of_all x f _ _ = []

-- the tuples of open nodes: the word and any list
abbrev pub node_template : List PatternValue
node_template = actual (word (codes "node")) ∷ any_numbers ∷ []

-- the test for the tuple of an open node
abbrev pub is_open : List FieldValue → Bool
is_open tuple = does_match node_template tuple

-- how many of the tuples are of open nodes
abbrev pub open_count : List (List FieldValue) → ℕ
open_count tuples = count_by is_open tuples
