-- The nodes that a search evaluates: those of the tree of its splits, which has each child that its parent does not prune and that is
-- not symmetric to an earlier one.
use Rattle.std.specs.Prelude.{◌≡◌, ◌⊎◌, ℕ, ◌+◌, List, Bool, true, false, ℤ, ◌+ℤ◌, ◌≤ℤ◌}
use Rattle.qap_cost.specs.Instance.{Problem}
use Rattle.qap_cost.specs.Placement.{Placement}
use Rattle.pair_duals.specs.PairDuals.{Duals}
use Rattle.pair_duals.specs.Reduced.{Form, IsChild, IsLine, IsStart, at, count_of}
use Rattle.subtree_search.specs.Closed.{Reaches, ReachesTrivially, threshold_of}
use Rattle.subtree_search.specs.Images.{IsImage, table_of}
use Rattle.subtree_search.specs.Lines.{IsLineOf, child_on, column_on, row_on}
use Rattle.subtree_search.specs.declared.line.Line.{Line}
use Rattle.subtree_search.specs.declared.outcome.Outcome.{Outcome}
use Rattle.subtree_search.specs.declared.outcome.Outcome.TheVariants.{Closed, LimitReached, Stopped}

mutual
  -- a node, which its own form closes, or which is split
  pub data Searched : Type 0 where
    closed : Searched
    split : Children → Searched

  -- the first children of a split in order, the last of them outermost: each is skipped, or evaluated and searched
  pub data Children : Type 0 where
    none : Children
    skipped : Children → Children
    evaluated : Children → Searched → Children

-- how many children these are
abbrev pub child_count : Children → ℕ
child_count none = 0
child_count (skipped before) = child_count before + 1
child_count (evaluated before own) = child_count before + 1

abbrev mutual
  -- how many nodes below this one were evaluated
  pub nodes_below : Searched → ℕ
  nodes_below closed = 0
  nodes_below (split children) = nodes_of children

  -- how many of these children, and of the nodes below them, were evaluated
  pub nodes_of : Children → ℕ
  nodes_of none = 0
  nodes_of (skipped before) = nodes_of before
  nodes_of (evaluated before own) = nodes_of before + 1 + nodes_below own

-- after some line, the value of a form reaches every bound up to c
pub record ClosesLined (I : Problem) (scale : ℕ) (c : ℤ) (R : Form) : Type 0 where
  pub lined : Form
  pub u : List ℤ
  pub v : List ℤ
  pub line : IsLine R lined u v
  pub reaches : Reaches I scale c lined.value

-- likewise; or the value with the row minima, and then the column minima, reaches it before a line
abbrev pub ClosesByForm : Problem → ℕ → ℤ → Form → Type 0
ClosesByForm I scale c R = ReachesTrivially I scale c R ⊎ ClosesLined I scale c R

-- y's form R prunes the k-th child on a line for every bound up to c, or the child is symmetric to an earlier one
abbrev pub IsSkipped : Problem → Duals → Placement → Form → Line → ℕ → ℤ → Type 0
IsSkipped I D y R line k c = Reaches I D.scale c (R.value +ℤ at R (row_on line k) (column_on line k)) ⊎ IsImage I y (table_of line) k

-- y's form R does not prune the k-th child on a line at cost c
abbrev pub IsKept : Duals → ℕ → Form → Line → ℕ → ℤ → Type 0
IsKept D step R line k c = (R.value +ℤ at R (row_on line k) (column_on line k)) ≤ℤ threshold_of D.scale step c

abbrev mutual
  -- this is a search tree over y for every bound up to c, where R is y's form before a line; whole, or a part of one. An evaluated child
  -- was not pruned at some cost from c to most.
  pub IsSearched : Problem → Duals → ℕ → ℤ → ℤ → Bool → Placement → Form → Searched → Type 0
  IsSearched I D step c most whole y R closed = ClosesByForm I D.scale c R
  IsSearched I D step c most whole y R (split children) =
      (S : Form) × (u : List ℤ) × (v : List ℤ) × (line : Line) × IsLine R S u v × IsLineOf (count_of S) line
      × (whole ≡ true → child_count children ≡ count_of S) × AreSearched I D step c most whole y S line children

  -- likewise for the children of y on a line, where R is y's form after a line; of a part, only the last child's tree may be a part
  pub AreSearched : Problem → Duals → ℕ → ℤ → ℤ → Bool → Placement → Form → Line → Children → Type 0
  AreSearched I D step c most whole y R line none = Unit {0}
  AreSearched I D step c most whole y R line (skipped before) =
      IsSkipped I D y R line (child_count before) c × AreSearched I D step c most true y R line before
  AreSearched I D step c most whole y R line (evaluated before own) =
      (cost : ℤ) × (S : Form) × (c ≤ℤ cost) × (cost ≤ℤ most) × IsKept D step R line (child_count before) cost
      × IsChild I D R (row_on line (child_count before)) (column_on line (child_count before)) S
      × IsSearched I D step c most whole (child_on y line (child_count before)) S own × AreSearched I D step c most true y R line before

-- whether a search went on to its end
abbrev pub is_whole : Outcome → Bool
is_whole Closed = true
is_whole LimitReached = false
is_whole Stopped = false

-- this many nodes are in a search tree over y, under pair duals of its own, with incumbents that cost from least to most; whole, or a
-- part of one
pub record Evaluates (I : Problem) (D : Duals) (step : ℕ) (y : Placement) (least most : ℤ) (whole : Bool) (nodes : ℕ) : Type 0 where
  pub start : Form
  pub begins : IsStart I D y start
  pub tree : Searched
  pub searched : (bound : ℤ) → bound ≤ℤ least → IsSearched I D step bound most whole y start tree
  pub counts : nodes ≡ nodes_below tree
