-- What one commit may replace an open node with.
use Rattle.std.specs.Prelude.{◌≡◌, ◌⊎◌, ℕ, List, [], ◌∷◌, ℤ, ◌<ℤ◌}
use Rattle.qap_cost.specs.Instance.{Problem}
use Rattle.qap_cost.specs.Objective.{Permutes, cost_of}
use Rattle.qap_cost.specs.Placement.{Placement, IsPlacement}
use Rattle.qap_cert.specs.Valid.{ClosesPart}
use Rattle.space_txn.specs.Content.{SameItems}
use Rattle.tuple_match.specs.FieldValue.{FieldValue}
use Rattle.qap_search.specs.Tuples.Piece.{node_tuple, best_tuple, pieces}
use Rattle.qap_search.specs.Law.SearchTree.{SearchTree, open_node, split_node, closed_node, IsTree, AreOpen}

-- a permutation, and its claimed cost
pub record Best : Type 0 where
  pub cost : ℤ
  pub permutation : List ℕ

-- the tuple of a permutation and its cost
abbrev pub tuple_of : Best → List FieldValue
tuple_of b = best_tuple b.cost b.permutation

-- the same, or a permutation that costs less
abbrev pub IsAsGood : Problem → Best → Best → Type 0
IsAsGood I old new =
    (new ≡ old) ⊎ (Permutes I new.permutation × (cost_of I new.permutation ≡ new.cost) × (new.cost <ℤ old.cost))

-- one decided node: duals close it, or it is split, and all its children are open
abbrev pub IsOneNode : SearchTree → Type 0
IsOneNode open_node = ⊥
IsOneNode (split_node f children) = AreOpen children
IsOneNode (closed_node u v) = Unit {0}

-- the incumbent was read, and stays
pub record ReadsBest (x : Placement) (old new : Best) (decided : SearchTree) (gone kept added : List (List FieldValue)) : Type 0 where
  pub same : new ≡ old
  pub takes : SameItems gone (node_tuple x ∷ [])
  pub reads : SameItems kept (tuple_of old ∷ [])
  pub adds : SameItems added (pieces x decided)

-- the incumbent was taken, and replaced by one that is as good or better
pub record TakesBest (I : Problem) (x : Placement) (old new : Best) (decided : SearchTree) (gone kept added : List (List FieldValue)) : Type 0 where
  pub as_good : IsAsGood I old new
  pub takes : SameItems gone (node_tuple x ∷ tuple_of old ∷ [])
  pub reads : SameItems kept []
  pub adds : SameItems added (tuple_of new ∷ pieces x decided)

-- an open node is replaced by a decided one, under the incumbent after the commit
pub record MayReplace (I : Problem) (gone kept added : List (List FieldValue)) : Type 0 where
  pub at : Placement
  pub placement : IsPlacement at
  pub same_size : at.size ≡ I.size
  pub old : Best
  pub new : Best
  pub decided : SearchTree
  pub one : IsOneNode decided
  pub valid : IsTree (ClosesPart I new.cost) at decided
  pub tuples : ReadsBest at old new decided gone kept added ⊎ TakesBest I at old new decided gone kept added
