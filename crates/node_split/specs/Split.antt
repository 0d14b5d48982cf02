-- A node that is split on a facility or a location.
use Rattle.std.specs.Prelude.{◌≡◌}
use Rattle.qap_cost.specs.Instance.{Problem}
use Rattle.qap_cost.specs.Placement.{IsPlacement, free_facilities, free_locations}
use Rattle.subtree_search.specs.Images.{table_of}
use Rattle.subtree_search.specs.Lines.{IsLineOf}
use Rattle.node_split.specs.Branch.{line_of}
use Rattle.node_split.specs.Evaluation.{IsEvaluated}
use Rattle.node_split.specs.Parent.{AreImages}
use Rattle.node_split.specs.declared.children.Split.{Split}

-- a node of the instance's size, its free facilities and locations, its evaluation, a row or column of its matrix,
-- and marks of children on it that are images of earlier ones
pub record IsSplit (I : Problem) (s : Split) : Type 0 where
  pub placement : IsPlacement s.node.now
  pub size : I.size ≡ s.node.now.size
  pub facilities : s.facilities.now ≡ free_facilities s.node.now
  pub locations : s.locations.now ≡ free_locations s.node.now
  pub evaluated : IsEvaluated I s.node.now s.here.now
  pub line : IsLineOf s.here.now.matrix.size (line_of s.branch)
  pub images : AreImages I s.node.now (table_of (line_of s.branch)) s.images.now
