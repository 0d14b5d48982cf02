-- What is known of a node before its children are evaluated.
use Rattle.std.specs.Prelude.{◌≡◌, Option, Some, None, ℤ}
use Rattle.qap_cost.specs.Instance.{Problem}
use Rattle.qap_cost.specs.Placement.{Placement, IsPlacement, free_facilities, free_locations}
use Rattle.subtree_search.specs.Closed.{IsClosed}
use Rattle.subtree_search.specs.Images.{table_of}
use Rattle.subtree_search.specs.Lines.{IsLineOf}
use Rattle.node_split.specs.Branch.{line_of, marks_on}
use Rattle.node_split.specs.Evaluation.{IsEvaluated}
use Rattle.node_split.specs.Parent.{AreImages}
use Rattle.node_split.specs.declared.branch.Branch.{Branch}
use Rattle.node_split.specs.declared.node_split.Workspace.{Workspace}

-- its evaluation, its free facilities and locations, a row or column of its matrix, and marks of children on it
-- that are images of earlier ones
pub record IsReady (I : Problem) (y : Placement) (w : Workspace) (b : Branch) : Type 0 where
  pub placement : IsPlacement y
  pub evaluated : IsEvaluated I y w.here
  pub facilities : w.facilities.items ≡ free_facilities y
  pub locations : w.locations.items ≡ free_locations y
  pub line : IsLineOf w.here.matrix.size (line_of b)
  pub images : AreImages I y (table_of (line_of b)) (marks_on w.marks b)

-- the node is closed at c, or it is split so
abbrev pub IsPrepared : Problem → Placement → ℤ → Workspace → Option Branch → Type 0
IsPrepared I y c w None = IsClosed I y c
IsPrepared I y c w (Some b) = IsReady I y w b
