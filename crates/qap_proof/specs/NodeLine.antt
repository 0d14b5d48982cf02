-- The content of a node's line, in memory.
use Rattle.std.specs.Prelude.{◌≡◌, ℕ, ◌+◌, ◌<◌, ◌++◌, ◌∷◌, List, length, ℤ, pos, codes, Bool, true, Option, Some, None}
use Rattle.number_list.specs.NumberList.{numbers_held}
use Rattle.qap_cost.specs.Placement.{Placement}
use Rattle.qap_io.specs.Number.{from_one}
use Rattle.qap_lines.specs.Number.{IsNamed}
use Rattle.qap_lines.specs.LineText.{numbers_text}
use Rattle.gilmore_lawler.specs.Closing.{AreDuals}
use Rattle.qap_proof.specs.Shape.{IsPermOf, IsSplit, free_count}
use Rattle.qap_proof.specs.Text.{letter, split_numbers}
use Rattle.qap_proof.specs.TextFault.{IsSayingFault, mirrors}
use Rattle.qap_proof.specs.Tree.{Pair, Split}
use Rattle.qap_proof.specs.declared.tree.Duals.{Duals}
use Rattle.qap_proof.specs.declared.tree.KeptDuals.{KeptDuals}
use Rattle.qap_proof.specs.declared.node_line.SplitLine.{SplitLine}
use Rattle.qap_proof.specs.declared.node_line.NodeLine.{NodeLine}
use Rattle.qap_proof.specs.declared.node_line.NodeLine.TheVariants.{Closed, Split as SplitsAt, Cut, Mirrored}
use Rattle.qap_proof.specs.declared.error.ProofError.{ProofError}

-- the two lists of numbers of duals in memory
abbrev pub pair_of : Duals → Pair
pair_of d = record { u = d.u.items; v = d.v.items }

-- likewise for duals in narrow lists
abbrev pub kept_pair_of : KeptDuals → Pair
kept_pair_of d = record { u = numbers_held d.u; v = numbers_held d.v }

-- likewise if there may be none
abbrev pub may_pair_of : Option KeptDuals → Option Pair
may_pair_of None = None
may_pair_of (Some d) = Some (kept_pair_of d)

-- the split that a split's line states
abbrev pub split_of : SplitLine → Split
split_of s = record { side = s.side; number = s.number; duals = may_pair_of s.duals }

-- the line spells this content, which has the required shape at x, with this many earlier children and
-- with or without duals of its parent
abbrev pub IsNodeLine : Placement → ℕ → Bool → List ℕ → NodeLine → Type 0
IsNodeLine x earlier duals line (Closed d) = AreDuals (free_count x) d.u.items d.v.items × (line ≡ codes "b" ++ numbers_text (d.u.items ++ d.v.items))
IsNodeLine x earlier duals line (SplitsAt s) = IsSplit x (split_of s) × (line ≡ letter s.side ++ numbers_text (split_numbers (split_of s)))
IsNodeLine x earlier duals line Cut = (duals ≡ true) × (line ≡ codes "c")
IsNodeLine x earlier duals line (Mirrored j m) = (j < earlier) × IsPermOf x.size m × (line ≡ codes "m" ++ numbers_text (pos (j + 1) ∷ from_one m))

-- the text begins with such a line
pub record HasLine (x : Placement) (earlier : ℕ) (duals : Bool) (text : List ℕ) (said : NodeLine) (rest : List ℕ) : Type 0 where
  pub line : List ℕ
  pub is_node : IsNodeLine x earlier duals line said
  pub is : text ≡ line ++ 10 ∷ rest

-- the line is that of a symmetric child, and has a fault
pub record IsMirrorFault (n earlier number : ℕ) (line : List ℕ) (e : ProofError) : Type 0 where
  pub first : ℤ
  pub others : List ℤ
  pub counted : length others ≡ n
  pub named : IsNamed (codes "m") line (first ∷ others)
  pub fault : (x : Placement) (duals : Bool) → IsSayingFault x earlier duals number (mirrors first others) e
