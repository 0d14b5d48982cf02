-- Children that a split has to try: neither the node's form nor the child's own closes them.
use Rattle.std.specs.Prelude.{◌≡◌, ℕ, ◌<◌, List, ℤ, ◌+ℤ◌, ◌≤ℤ◌}
use Rattle.qap_cost.specs.Instance.{Problem}
use Rattle.qap_cost.specs.Placement.{Placement}
use Rattle.pair_duals.specs.PairDuals.{Duals}
use Rattle.pair_duals.specs.Reduced.{Form, IsChild, IsLine, IsStart, at, count_of}
use Rattle.pair_duals.specs.Seats.{child_at}
use Rattle.subtree_search.specs.Closed.{StaysWithin, threshold_of}
use Rattle.subtree_search.specs.Opens.{node_of}
use Rattle.subtree_search.specs.declared.split.OpenChild.{OpenChild}

-- at cost c, the child at row h and column g of a form is closed neither by its own form's row minima, and then its column minima,
-- nor by its value
pub record StaysOpen (I : Problem) (D : Duals) (step : ℕ) (R : Form) (h g : ℕ) (c : ℤ) (child : OpenChild) : Type 0 where
  pub own : Form
  pub made : IsChild I D R h g own
  pub within : StaysWithin own (threshold_of D.scale step c)
  pub value : child.value ≤ℤ threshold_of D.scale step c

-- at cost c, y's form R does not prune the child, and the child stays open
pub record IsLeft (I : Problem) (D : Duals) (step : ℕ) (y : Placement) (R : Form) (c : ℤ) (child : OpenChild) : Type 0 where
  pub h : ℕ
  pub g : ℕ
  pub row : h < count_of R
  pub column : g < count_of R
  pub is : node_of y child ≡ child_at y h g
  pub kept : (R.value +ℤ at R h g) ≤ℤ threshold_of D.scale step c
  pub open_there : StaysOpen I D step R h g c child

-- y's form from the pair duals alone, to which a line has been applied
pub record IsLined (I : Problem) (D : Duals) (y : Placement) (R : Form) : Type 0 where
  pub start : Form
  pub begins : IsStart I D y start
  pub u : List ℤ
  pub v : List ℤ
  pub line : IsLine start R u v

-- at some cost between these two, y's form after a line does not prune the child, and the child stays open
pub record NeedsTrial (I : Problem) (D : Duals) (step : ℕ) (y : Placement) (least most : ℤ) (child : OpenChild) : Type 0 where
  pub form : Form
  pub lined : IsLined I D y form
  pub cost : ℤ
  pub above : least ≤ℤ cost
  pub below : cost ≤ℤ most
  pub left : IsLeft I D step y form cost child
