-- What one commit may replace an open node with.
use Rattle.std.specs.Prelude.{◌≡◌, ◌≤ℤ◌, List, [], ◌∷◌, All, map}
use Rattle.qap_cost.specs.Instance.{Problem}
use Rattle.shared_space.specs.Law.{Content}
use Rattle.space_txn.specs.Content.{SameItems}
use Rattle.subtree_search.specs.Best.{Best, IsIncumbent}
use Rattle.part_search.specs.Covers.{HasValue, IsCovered}
use Rattle.part_search.specs.Tuples.{OpenNode, best_tuple, node_tuple}

-- The commit takes an open node and the incumbent, and replaces them with open nodes and an incumbent that is no worse: the new nodes
-- cover the old one at the new incumbent's cost, and have the values that are written for them.
pub record MayReplace (I : Problem) (gone kept added : Content) : Type 0 where
  pub at : OpenNode
  pub old : Best
  pub new : Best
  pub opens : List OpenNode
  pub takes : SameItems gone (node_tuple at ∷ best_tuple old ∷ [])
  pub keeps : SameItems kept []
  pub adds : SameItems added (best_tuple new ∷ map node_tuple opens)
  pub same_size : at.node.size ≡ I.size
  pub incumbent : IsIncumbent I new
  pub no_worse : new.cost ≤ℤ old.cost
  pub values : HasValue I old.cost at → All (HasValue I new.cost) opens
  pub covers : HasValue I old.cost at → IsCovered I at.node new.cost opens
