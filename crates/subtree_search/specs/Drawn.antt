-- Nodes to which a line has been applied.
use Rattle.std.specs.Prelude.{◌≡◌, ◌<◌, List, length, ℤ}
use Rattle.qap_cost.specs.Range.{AllWithin}
use Rattle.pair_duals.specs.Reduced.{Form, IsLine, count_of}
use Rattle.subtree_search.specs.Premises.{limits_of_64}

-- with these numbers of rows, if there are rows
pub record IsDrawn (start drawn : Form) (u : List ℤ) : Type 0 where
  pub some : 0 < count_of drawn
  pub count : length u ≡ count_of start
  pub range : AllWithin limits_of_64.dual u
  pub v : List ℤ
  pub line : IsLine start drawn u v
