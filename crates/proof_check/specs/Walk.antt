-- What walking along the lines of a tree finds, without storing the tree.
use Rattle.std.specs.Prelude.{◌≡◌, ℕ, ◌++◌, ◌∷◌, [], List, ℤ, Bool, true, false, Option, None, Some, MatchOption}
use Rattle.qap_cost.specs.Instance.{Problem}
use Rattle.qap_cost.specs.Placement.{Placement}
use Rattle.qap_proof.specs.Cell.{IsPlaceOf, own_on}
use Rattle.qap_proof.specs.declared.side.Side.{Side}
use Rattle.qap_proof.specs.declared.leaf.Leaf.{Leaf}
use Rattle.proof_tree.specs.Image.{IsImage}
use Rattle.proof_tree.specs.Leaves.{AllHaveLeaves, HasLeaves, IsLeafBelow}
use Rattle.proof_tree.specs.Shape.{IsImageOf, HasShape, AllHaveShape}
use Rattle.proof_tree.specs.Text.{image_text, tree_text, children_text, marks}
use Rattle.proof_tree.specs.Tree.{PairRows, Image, Tree, leaf, split, Children}
use Rattle.proof_tree.specs.Valid.{Under}
use Rattle.qap_proof.specs.declared.error.ProofError.{ProofError}
use Rattle.proof_check.specs.Fault.{content, kind_of}
use Rattle.proof_check.specs.Flow.{Flow, Passes}

-- whether pair duals are inherited
abbrev pub is_there : Option Under → Bool
is_there None = false
is_there (Some above) = true

-- the root of a tree has its own pair duals
abbrev pub own_of : Tree → Option PairRows
own_of (leaf d) = d.own
own_of (split d _ _ _) = d.own

-- ---- grammar

-- this line and what was read after it are the text of a tree at y, where pair duals come from above or not
pub record SkimsTree (y : Placement) (above : Bool) (line : List ℕ) (old new : Flow) : Type 0 where
  pub text : List ℕ
  pub consumed : Passes old new text
  pub tree : Tree
  pub is : line ++ 10 ∷ text ≡ tree_text tree
  pub shape : HasShape y above tree

-- likewise under inherited pair duals, without its own
pub record SkimsLined (y : Placement) (line : List ℕ) (old new : Flow) : Type 0 where
  pub skimmed : SkimsTree y true line old new
  pub bare : own_of skimmed.tree ≡ None

-- what was read is the text of children of a split of y, from number c on, which have these marks
pub record SkimsChildren (y : Placement) (side : Side) (own c : ℕ) (marked : List ℕ) (old new : Flow) : Type 0 where
  pub text : List ℕ
  pub consumed : Passes old new text
  pub children : Children
  pub marks_are : marks children ≡ marked
  pub is : text ≡ children_text children
  pub shapes : AllHaveShape y side own c children

-- likewise for all children of a split on this facility or location
pub record SkimsSplit (y : Placement) (side : Side) (number : ℕ) (marked : List ℕ) (old new : Flow) : Type 0 where
  pub own : ℕ
  pub place : IsPlaceOf (own_on side y) number own
  pub skimmed : SkimsChildren y side own 0 marked old new

-- ---- content

-- such a tree was read, which is valid at y, and whose leaves below the cost were listed after others
pub record WalksTree (I : Problem) (step : ℕ) (bound cost : ℤ) (y : Placement) (above : Option Under) (line : List ℕ) (old new : Flow) (before after : List Leaf) : Type 0 where
  pub skimmed : SkimsTree y (is_there above) line old new
  pub leaves : List Leaf
  pub listed : after ≡ before ++ leaves
  pub valid : HasLeaves I step bound cost y above skimmed.tree leaves

-- likewise under inherited pair duals, without its own
pub record WalksLined (I : Problem) (step : ℕ) (bound cost : ℤ) (y : Placement) (now : Under) (line : List ℕ) (old new : Flow) (before after : List Leaf) : Type 0 where
  pub walked : WalksTree I step bound cost y (Some now) line old new before after
  pub bare : own_of walked.skimmed.tree ≡ None

-- such children were read, which are valid, and their leaves were listed
pub record WalksChildren (I : Problem) (step : ℕ) (bound cost : ℤ) (y : Placement) (now : Under) (side : Side) (own c : ℕ) (marked : List ℕ) (old new : Flow) (before after : List Leaf) : Type 0 where
  pub skimmed : SkimsChildren y side own c marked old new
  pub leaves : List Leaf
  pub listed : after ≡ before ++ leaves
  pub valid : AllHaveLeaves I step bound cost y now side own c skimmed.children leaves

-- likewise for all children of a split on this facility or location
pub record WalksSplit (I : Problem) (step : ℕ) (bound cost : ℤ) (y : Placement) (now : Under) (side : Side) (number : ℕ) (marked : List ℕ) (old new : Flow) (before after : List Leaf) : Type 0 where
  pub own : ℕ
  pub place : IsPlaceOf (own_on side y) number own
  pub walked : WalksChildren I step bound cost y now side own 0 marked old new before after

-- a node reaches the bound, and if it does not reach the cost, it was listed as a leaf after others
pub record PushesLeaf (Reaches : ℤ → Type 0) (bound cost : ℤ) (y : Placement) (before after : List Leaf) : Type 0 where
  pub leaves : List Leaf
  pub listed : after ≡ before ++ leaves
  pub below : IsLeafBelow Reaches bound cost y leaves

-- the line is that of a symmetric image of one of the earlier children of a split of y, of which child number c is the next; unless there
-- is a fault of content, it is the image of that one
pub record JudgesImage (I : Problem) (y : Placement) (side : Side) (own c : ℕ) (line : List ℕ) (fault : Option ProofError) : Type 0 where
  pub moved : Image
  pub is : line ++ 10 ∷ [] ≡ image_text moved
  pub shape : IsImageOf y.size c moved
  pub judged : MatchOption fault (IsImage I y side own c moved) (λ e. (kind_of e ≡ content) × (IsImage I y side own c moved → ⊥))

-- the line that was current, and what was read after it, are a text and the line that is current now
abbrev pub ReadsBehind : List ℕ → List ℕ → List ℕ → Flow → Flow → Type 0
ReadsBehind before text line old new = (bytes : List ℕ) × Passes old new bytes × (before ++ 10 ∷ bytes ≡ text ++ line ++ 10 ∷ [])
