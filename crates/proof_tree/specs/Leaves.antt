-- The leaves of a proof with pair duals whose values are below its cost. The value of a leaf is the greatest bound that it reaches.
use Rattle.std.specs.Prelude.{◌≡◌, ◌⊎◌, ℕ, ◌+◌, ◌++◌, Option, Some, List, [], ◌∷◌, length, ℤ, ◌<ℤ◌, ◌≤ℤ◌}
use Rattle.qap_cost.specs.Instance.{Problem}
use Rattle.qap_cost.specs.Placement.{Placement}
use Rattle.pair_duals.specs.Reduced.{Form, IsChild}
use Rattle.qap_proof.specs.Cell.{IsPlaceOf, own_on}
use Rattle.qap_proof.specs.Cover.{leaf as leaf_at}
use Rattle.qap_proof.specs.declared.leaf.Leaf.{Leaf}
use Rattle.qap_proof.specs.declared.side.Side.{Side}
use Rattle.proof_tree.specs.Image.{IsImage}
use Rattle.proof_tree.specs.Tree.{Tree, leaf, split, Children, no_children, closed, image, grown, child_count, row_of, column_of, child_on}
use Rattle.proof_tree.specs.Valid.{IsClosed, IsLined, ReachesBound, Under, under}

-- the greatest bound that is reached
pub record IsGreatest (Reaches : ℤ → Type 0) (z : ℤ) : Type 0 where
  pub reached : Reaches z
  pub greatest : (g : ℤ) → Reaches g → g ≤ℤ z

-- the bound is reached, and these are the leaf of this node with the greatest bound that is reached, if that is below the cost, else none
pub record IsLeafBelow (Reaches : ℤ → Type 0) (bound cost : ℤ) (y : Placement) (ls : List Leaf) : Type 0 where
  pub reached : Reaches bound
  pub listed : (Reaches cost × (ls ≡ [])) ⊎ ((z : ℤ) × IsGreatest Reaches z × (z <ℤ cost) × (ls ≡ leaf_at y z ∷ []))

abbrev mutual
  -- the tree is valid for the bound, and these are its leaves with values below the cost, in preorder: nodes with an `x` line, and
  -- children without a text; a symmetric image is none, since it shows what its source shows
  pub HasLeaves : Problem → ℕ → ℤ → ℤ → Placement → Option Under → Tree → List Leaf → Type 0
  HasLeaves I step bound cost y above (leaf d) ls =
      (now : Under) × IsLined I y above d now × IsLeafBelow (λ g. ReachesBound step g now.duals.scale now.form.value) bound cost y ls
  HasLeaves I step bound cost y above (split d side number children) ls =
      (now : Under) × (own : ℕ) × IsLined I y above d now × IsPlaceOf (own_on side y) number own
      × (child_count children + length y.facilities ≡ y.size) × AllHaveLeaves I step bound cost y now side own 0 children ls

  -- likewise for the children of a split of y, from number c on
  pub AllHaveLeaves : Problem → ℕ → ℤ → ℤ → Placement → Under → Side → ℕ → ℕ → Children → List Leaf → Type 0
  AllHaveLeaves I step bound cost y now side own c no_children ls = ls ≡ []
  AllHaveLeaves I step bound cost y now side own c (closed rest) ls =
      (here others : List Leaf) × (ls ≡ here ++ others)
      × IsLeafBelow (λ g. IsClosed I step g now (row_of side own c) (column_of side own c)) bound cost (child_on side y own c) here
      × AllHaveLeaves I step bound cost y now side own (c + 1) rest others
  AllHaveLeaves I step bound cost y now side own c (image m rest) ls =
      IsImage I y side own c m × AllHaveLeaves I step bound cost y now side own (c + 1) rest ls
  AllHaveLeaves I step bound cost y now side own c (grown t rest) ls =
      (form : Form) × (here others : List Leaf) × (ls ≡ here ++ others)
      × IsChild I now.duals now.form (row_of side own c) (column_of side own c) form
      × HasLeaves I step bound cost (child_on side y own c) (Some (under now.duals form)) t here
      × AllHaveLeaves I step bound cost y now side own (c + 1) rest others
