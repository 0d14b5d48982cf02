-- The tuples of a search that was stopped, once each open node is closed.
use Rattle.std.specs.Prelude.{◌≡◌, ◌≢◌, ◌⊎◌, ℕ, List, [], ◌∷◌, codes, ℤ}
use Rattle.std.specs.List.{AllZip}
use Rattle.qap_cost.specs.Instance.{Problem}
use Rattle.qap_cost.specs.Placement.{Placement, IsPlacement}
use Rattle.space_txn.specs.Content.{SameItems}
use Rattle.tuple_match.specs.FieldValue.{FieldValue, word, numbers}
use Rattle.qap_search.specs.Certificate.OpenNodes.{AreLeastDuals}
use Rattle.qap_search.specs.Tuples.Piece.{closed_tuple, node_list, node_tuple}

-- the word of an open node's tuple and a list
abbrev pub named_node : List ℤ → List FieldValue
named_node xs = word (codes "node") ∷ numbers xs ∷ []

-- the tuple is that of the node x, closed by the duals of a least assignment
pub record IsClosedBy (I : Problem) (x : Placement) (tuple : List FieldValue) : Type 0 where
  pub u : List ℤ
  pub v : List ℤ
  pub least : AreLeastDuals I x u v
  pub is : tuple ≡ closed_tuple x u v

-- the old tuple is that of an open node, which the new one closes
pub record ClosesNode (I : Problem) (old new : List FieldValue) : Type 0 where
  pub node : Placement
  pub placement : IsPlacement node
  pub size : node.size ≡ I.size
  pub is : old ≡ node_tuple node
  pub closed : IsClosedBy I node new

-- a tuple that is not named as an open node's is unchanged, and that of an open node is closed
abbrev pub IsClosedTuple : Problem → List FieldValue → List FieldValue → Type 0
IsClosedTuple I old new = (((xs : List ℤ) → old ≢ named_node xs) × (new ≡ old)) ⊎ ClosesNode I old new

-- the tuple is named as an open node's, but its list is that of no node of size n
pub record IsNoNode (n : ℕ) (tuple : List FieldValue) : Type 0 where
  pub list : List ℤ
  pub is : tuple ≡ named_node list
  pub none : (x : Placement) → IsPlacement x → x.size ≡ n → node_list x ≢ list

-- the new tuples are the old ones, in any order, each closed
pub record AreClosed (I : Problem) (old new : List (List FieldValue)) : Type 0 where
  pub sources : List (List FieldValue)
  pub same : SameItems old sources
  pub closed : AllZip (IsClosedTuple I) sources new

-- one of the tuples is named as an open node's, but is none of size n
pub record HasNoNode (n : ℕ) (tuples : List (List FieldValue)) : Type 0 where
  pub tuple : List FieldValue
  pub rest : List (List FieldValue)
  pub among : SameItems tuples (tuple ∷ rest)
  pub wrong : IsNoNode n tuple
