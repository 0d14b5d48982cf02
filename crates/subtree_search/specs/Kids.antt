-- The outcome for a child of a split in a proof's tree.
use Rattle.std.specs.Prelude.{◌≡◌, ℕ, ◌++◌, ◌∷◌, [], List, length, ℤ, Some, true}
use Rattle.qap_cost.specs.Instance.{Problem}
use Rattle.qap_cost.specs.Placement.{Placement}
use Rattle.pair_duals.specs.Reduced.{Form, IsChild}
use Rattle.qap_proof.specs.declared.side.Side.{Side}
use Rattle.proof_tree.specs.Image.{IsImage}
use Rattle.proof_tree.specs.Shape.{HasShape, IsImageOf}
use Rattle.proof_tree.specs.Text.{image_text, tree_text}
use Rattle.proof_tree.specs.Tree.{Image, Tree, Children, no_children, closed, image, grown, child_on, column_of, row_of}
use Rattle.proof_tree.specs.Valid.{IsClosed, Under, Valid, under}

-- it has no text, or is a symmetric image of an earlier one, or a tree
pub data Kid : Type 0 where
  bare : Kid
  as_image : Image → Kid
  as_tree : Tree → Kid

-- the child after others
abbrev pub behind : Children → Kid → Children
behind no_children bare = closed no_children
behind no_children (as_image m) = image m no_children
behind no_children (as_tree t) = grown t no_children
behind (closed rest) kid = closed (behind rest kid)
behind (image m rest) kid = image m (behind rest kid)
behind (grown t rest) kid = grown t (behind rest kid)

-- its mark in the split's line, and its text
abbrev pub mark_of : Kid → ℕ
mark_of bare = 46
mark_of (as_image m) = 43
mark_of (as_tree t) = 43

-- the text that it has after the line of the split
abbrev pub kid_text : Kid → List ℕ
kid_text bare = []
kid_text (as_image m) = image_text m
kid_text (as_tree t) = tree_text t

-- child number c of a split of y has this shape
abbrev pub HasKidShape : Placement → Side → ℕ → ℕ → Kid → Type 0
HasKidShape y side own c bare = Unit {0}
HasKidShape y side own c (as_image m) = IsImageOf y.size c m
HasKidShape y side own c (as_tree t) = HasShape (child_on side y own c) true t

-- and is valid
abbrev pub IsValidKid : Problem → ℕ → ℤ → Placement → Under → Side → ℕ → ℕ → Kid → Type 0
IsValidKid I step bound y now side own c bare = IsClosed I step bound now (row_of side own c) (column_of side own c)
IsValidKid I step bound y now side own c (as_image m) = IsImage I y side own c m
IsValidKid I step bound y now side own c (as_tree t) =
    (form : Form) × IsChild I now.duals now.form (row_of side own c) (column_of side own c) form × Valid I step bound (child_on side y own c) (Some (under now.duals form)) t

-- if the texts end in a position and this many marks after it, and a mark for a child without a text and more, the child's mark takes
-- its position, and its text is added
pub record GrowsBy (kid : Kid) (ends : List ℕ → Type 0) (c : ℕ) (old new : List ℕ → Type 0) : Type 0 where
  pub each : (t before after : List ℕ) → ends t → length before ≡ c → old (t ++ before ++ 46 ∷ after) → new (t ++ before ++ mark_of kid ∷ after ++ kid_text kid)

-- what precedes the position is unchanged
pub record GrowsBehind (ends : List ℕ → Type 0) (c : ℕ) (old new : List ℕ → Type 0) : Type 0 where
  pub each : (t before after : List ℕ) → ends t → length before ≡ c → old (t ++ before ++ 46 ∷ after) → (more : List ℕ) × new (t ++ more)
