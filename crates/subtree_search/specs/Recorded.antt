-- What a record contains for a closed node: a proof's tree.
use Rattle.std.specs.Prelude.{◌≡◌, ℕ, ◌-◌, ◌++◌, ◌∷◌, [], List, ℤ, ◌≤ℤ◌, true, false, None, Some, replicate}
use Rattle.qap_cost.specs.Instance.{Problem}
use Rattle.qap_cost.specs.Placement.{Placement}
use Rattle.qap_lines.specs.LineText.{numbers_text}
use Rattle.qap_proof.specs.Cell.{IsPlaceOf, own_on}
use Rattle.qap_proof.specs.declared.side.Side.{Side}
use Rattle.pair_duals.specs.CostStep.{step_of}
use Rattle.pair_duals.specs.PairDuals.{Duals}
use Rattle.pair_duals.specs.Reduced.{Form, count_of}
use Rattle.proof_tree.specs.Shape.{AllHaveShape, HasShape}
use Rattle.proof_tree.specs.Text.{children_text, marks, split_text, tree_text}
use Rattle.proof_tree.specs.Tree.{Tree, leaf, split, Children, child_count}
use Rattle.proof_tree.specs.Valid.{AllValid, Valid, under}
use Rattle.subtree_search.specs.Adding.{Adds, front_text}
use Rattle.subtree_search.specs.Clean.{clean}
use Rattle.subtree_search.specs.Kids.{Kid, GrowsBy, HasKidShape, IsValidKid}
use Rattle.subtree_search.specs.Lines.{own_of, side_of}
use Rattle.subtree_search.specs.declared.line.Line.{Line}

-- the text of a tree over the node is added, which is valid for every bound up to c
pub record HasProof (I : Problem) (y : Placement) (c : ℤ) (old new : List ℕ → Type 0) : Type 0 where
  pub tree : Tree
  pub shape : HasShape y false tree
  pub valid : (bound : ℤ) → bound ≤ℤ c → Valid I (step_of I) bound y None tree
  pub adds : Adds old new (tree_text tree)

-- its first node has no pair duals of its own
abbrev pub IsPlain : Tree → Type 0
IsPlain (leaf d) = d.own ≡ None
IsPlain (split d side number below) = d.own ≡ None

-- likewise for a node that inherits its pair duals and form
pub record HasTree (I : Problem) (D : Duals) (y : Placement) (R : Form) (c : ℤ) (old new : List ℕ → Type 0) : Type 0 where
  pub tree : Tree
  pub plain : IsPlain tree
  pub shape : HasShape y true tree
  pub valid : (bound : ℤ) → bound ≤ℤ c → Valid I (step_of I) bound y (Some (under (clean D) R)) tree
  pub adds : Adds old new (tree_text tree)

-- a split of a node to which a line has been applied is added, with the texts of its children
pub record HasSplit (I : Problem) (D : Duals) (y : Placement) (R : Form) (u : List ℤ) (c : ℤ) (old new : List ℕ → Type 0) : Type 0 where
  pub side : Side
  pub number : ℕ
  pub own : ℕ
  pub place : IsPlaceOf (own_on side y) number own
  pub children : Children
  pub count : child_count children ≡ count_of R
  pub shape : AllHaveShape y side own 0 children
  pub valid : (bound : ℤ) → bound ≤ℤ c → AllValid I (step_of I) bound y (under (clean D) R) side own 0 children
  pub adds : Adds old new (split_text side number (marks children) u ++ children_text children)

-- the k-th child on the line is settled, for every bound up to c
pub record HasKid (I : Problem) (D : Duals) (y : Placement) (R : Form) (line : Line) (k : ℕ) (c : ℤ) (ends old new : List ℕ → Type 0) : Type 0 where
  pub kid : Kid
  pub shape : HasKidShape y (side_of line) (own_of line) k kid
  pub valid : (bound : ℤ) → bound ≤ℤ c → IsValidKid I (step_of I) bound y (under (clean D) R) (side_of line) (own_of line) k kid
  pub grows : GrowsBy kid ends k old new

-- the line of a split with marks for its first children, and dots for all others, and the texts of these children
abbrev pub begun_text : Side → ℕ → List ℤ → Children → ℕ → List ℕ
begun_text side number u children left =
    front_text side number ++ marks children ++ replicate left 46 ++ numbers_text u ++ 10 ∷ [] ++ children_text children

-- the first n children on the line are settled, for every bound up to c
pub record HasBegun (I : Problem) (D : Duals) (y : Placement) (R : Form) (u : List ℤ) (line : Line) (number n : ℕ) (c : ℤ) (ends old new : List ℕ → Type 0) : Type 0 where
  pub children : Children
  pub count : child_count children ≡ n
  pub shape : AllHaveShape y (side_of line) (own_of line) 0 children
  pub valid : (bound : ℤ) → bound ≤ℤ c → AllValid I (step_of I) bound y (under (clean D) R) (side_of line) (own_of line) 0 children
  pub place : (t : List ℕ) → old t → ends (t ++ front_text (side_of line) number)
  pub adds : Adds old new (begun_text (side_of line) number u children (count_of R - n))
