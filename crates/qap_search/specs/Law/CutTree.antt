-- The tuples of a search at any moment: the nodes of one tree, and the incumbent.
use Rattle.std.specs.Prelude.{◌≡◌, ◌≤ℤ◌, ℕ, List, ◌∷◌, ℤ}
use Rattle.qap_cost.specs.Objective.{Permutes, cost_of}
use Rattle.qap_cost.specs.Placement.{IsPlacement}
use Rattle.qap_cert.specs.Valid.{ClosesPart}
use Rattle.space_txn.specs.Content.{SameItems}
use Rattle.tuple_match.specs.FieldValue.{FieldValue}
use Rattle.qap_search.specs.Tuples.Piece.{best_tuple, pieces}
use Rattle.qap_search.specs.Law.Search.{Search}
use Rattle.qap_search.specs.Law.SearchTree.{SearchTree, IsTree, decided_count}

-- the tuples, in any order, are those of a search tree over the root, whose closed nodes contain nothing that costs less than the
-- incumbent, and of that permutation, which costs no more than the known one; and each commit has decided
-- one node
pub record IsCutTree (S : Search) (content : List (List FieldValue)) (commits : ℕ) : Type 0 where
  pub tree : SearchTree
  pub cost : ℤ
  pub permutation : List ℕ
  pub root : IsPlacement S.root
  pub same_size : S.root.size ≡ S.instance.size
  pub permutes : Permutes S.instance permutation
  pub costs : cost_of S.instance permutation ≡ cost
  pub no_dearer : cost ≤ℤ S.known.cost
  pub valid : IsTree (ClosesPart S.instance cost) S.root tree
  pub taken_apart : SameItems content (best_tuple cost permutation ∷ pieces S.root tree)
  pub counted : commits ≡ decided_count tree
