-- Leaves listed in sequence.
use Rattle.std.specs.Prelude.{◌≡◌, ◌++◌, List}
use Rattle.qap_cost.specs.Instance.{Problem}
use Rattle.qap_cost.specs.Placement.{Placement}
use Rattle.qap_proof.specs.Cover.{AreLeaves, AreAllLeaves}
use Rattle.qap_proof.specs.Tree.{Split, Node, Nodes, Place}
use Rattle.qap_proof.specs.declared.leaf.Leaf.{Leaf}

-- the old ones are followed by the leaves of the tree at this position
pub record ArePushed (I : Problem) (p : Place) (t : Node) (old new : List Leaf) : Type 0 where
  pub leaves : List Leaf
  pub is : new ≡ old ++ leaves
  pub are : AreLeaves I p t leaves

-- the old ones are followed by the leaves of the children of a split of x
pub record AreAllPushed (I : Problem) (x : Placement) (s : Split) (ts : Nodes) (old new : List Leaf) : Type 0 where
  pub leaves : List Leaf
  pub is : new ≡ old ++ leaves
  pub are : AreAllLeaves I x s 0 ts leaves
