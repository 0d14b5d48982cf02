-- What makes a tree prove a bound: the value of the reduced form at each leaf, and at each child without a text, reaches it, and the
-- splits omit no permutation (Adams and Johnson 1994; Hahn and Grant 1998).
use Rattle.std.specs.Prelude.{◌≡◌, ◌⊎◌, ℕ, ◌+◌, ◌-◌, ◌*◌, ◌<◌, Option, Some, None, List, [], length, ℤ, pos, ◌+ℤ◌, ◌*ℤ◌, ◌<ℤ◌, slice_index_or}
use Rattle.qap_cost.specs.Instance.{Problem}
use Rattle.qap_cost.specs.Matrix.{total}
use Rattle.qap_cost.specs.Placement.{Placement}
use Rattle.pair_duals.specs.PairDuals.{Duals, AreOf, Fit, alpha_of, beta_of, cube}
use Rattle.pair_duals.specs.Reduced.{Form, AreLeast, AreLeastOfRows, IsChild, IsLine, IsStart, at, count_of, past}
use Rattle.qap_proof.specs.Cell.{IsPlaceOf, own_on}
use Rattle.qap_proof.specs.declared.side.Side.{Side}
use Rattle.proof_tree.specs.Image.{IsImage}
use Rattle.proof_tree.specs.Tree.{PairRows, NodeDuals, Tree, leaf, split, Children, no_children, closed, image, grown, child_count, row_of, column_of, child_on}

-- number t of the row of the i-th facility at the k-th location, with m of each free
abbrev pub in_row : PairRows → ℕ → ℕ → ℕ → ℕ → ℤ
in_row P m i k t = slice_index_or (slice_index_or P.rows (i * m + k) []) t (pos 0)

-- they are the pair duals of y that the rows list; the meaningless ones, of a facility or a location for itself, are 0
pub record AreListed (y : Placement) (P : PairRows) (D : Duals) : Type 0 where
  pub of : AreOf y D
  pub scale : D.scale ≡ P.scale
  pub alpha_count : length D.alpha ≡ cube (length D.facilities)
  pub beta_count : length D.beta ≡ cube (length D.facilities)
  pub alpha : (i k t : ℕ) → i < length D.facilities → k < length D.facilities → t + 1 < length D.facilities
      → alpha_of D i k (past i t) ≡ in_row P (length D.facilities) i k t
  pub beta : (i k t : ℕ) → i < length D.facilities → k < length D.facilities → t + 1 < length D.facilities
      → beta_of D i k (past k t) ≡ in_row P (length D.facilities) i k ((length D.facilities - 1) + t)
  pub alpha_itself : (i k : ℕ) → i < length D.facilities → k < length D.facilities → alpha_of D i k i ≡ pos 0
  pub beta_itself : (i k : ℕ) → i < length D.facilities → k < length D.facilities → beta_of D i k k ≡ pos 0

-- the pair duals in force at a node, and its form under them
pub record Under : Type 0 where
  pub duals : Duals
  pub form : Form

-- these pair duals in force at a node, with its form under them
abbrev pub under : Duals → Form → Under
under D R = record { duals = D; form = R }

-- a node begins with what it inherits, if anything; or, if it has its own pair duals, which fit, with the form from these alone
abbrev pub Begins : Problem → Placement → Option Under → Option PairRows → Duals → Form → Type 0
Begins I y None None D R = ⊥
Begins I y (Some above) None D R = (D ≡ above.duals) × (R ≡ above.form)
Begins I y above (Some rows) D R = AreListed y rows D × Fit I D × IsStart I D y R

-- likewise, and its line is applied
pub record IsLined (I : Problem) (y : Placement) (above : Option Under) (d : NodeDuals) (now : Under) : Type 0 where
  pub start : Form
  pub v : List ℤ
  pub begins : Begins I y above d.own now.duals start
  pub line : IsLine start now.form d.u v

-- the value is above each multiple of the step that is below the bound g, scaled: above scale (g' - step), where g' is the least
-- multiple that is at least g
abbrev pub ReachesBound : ℕ → ℤ → ℕ → ℤ → Type 0
ReachesBound step g scale value = (k : ℤ) → (pos step *ℤ k) <ℤ g → (pos scale *ℤ (pos step *ℤ k)) <ℤ value

-- the form of the child that puts row h at column g reaches the bound by its row minima, and then its column minima
pub record ClosesTrivially (I : Problem) (step : ℕ) (bound : ℤ) (now : Under) (h g : ℕ) : Type 0 where
  pub form : Form
  pub u : List ℤ
  pub v : List ℤ
  pub child : IsChild I now.duals now.form h g form
  pub rows : AreLeastOfRows (count_of form) form.entries u
  pub columns : AreLeast (count_of form) form.entries u v
  pub reaches : ReachesBound step bound now.duals.scale (form.value +ℤ (total u +ℤ total v))

-- likewise, or its value alone reaches it
abbrev pub IsClosed : Problem → ℕ → ℤ → Under → ℕ → ℕ → Type 0
IsClosed I step bound now h g =
    ReachesBound step bound now.duals.scale (now.form.value +ℤ at now.form h g) ⊎ ClosesTrivially I step bound now h g

abbrev mutual
  -- no completion of y costs less than the bound, and the tree shows why, where these pair duals and this form come from above, or none
  pub Valid : Problem → ℕ → ℤ → Placement → Option Under → Tree → Type 0
  Valid I step bound y above (leaf d) = (now : Under) × IsLined I y above d now × ReachesBound step bound now.duals.scale now.form.value
  Valid I step bound y above (split d side number children) =
      (now : Under) × (own : ℕ) × IsLined I y above d now × IsPlaceOf (own_on side y) number own
      × (child_count children + length y.facilities ≡ y.size) × AllValid I step bound y now side own 0 children

  -- the children of a split of y, from number c on
  pub AllValid : Problem → ℕ → ℤ → Placement → Under → Side → ℕ → ℕ → Children → Type 0
  AllValid I step bound y now side own c no_children = Unit {0}
  AllValid I step bound y now side own c (closed rest) =
      IsClosed I step bound now (row_of side own c) (column_of side own c) × AllValid I step bound y now side own (c + 1) rest
  AllValid I step bound y now side own c (image m rest) = IsImage I y side own c m × AllValid I step bound y now side own (c + 1) rest
  AllValid I step bound y now side own c (grown t rest) =
      (form : Form) × IsChild I now.duals now.form (row_of side own c) (column_of side own c) form
      × Valid I step bound (child_on side y own c) (Some (under now.duals form)) t × AllValid I step bound y now side own (c + 1) rest
