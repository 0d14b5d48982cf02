-- The content of the lines of a tree.
use Rattle.std.specs.Prelude.{◌≡◌, ◌⊎◌, ℕ, ◌<◌, ◌++◌, ◌∷◌, [], List, length, slice_index, codes}
use Rattle.qap_lines.specs.LineText.{numbers_text}
use Rattle.proof_tree.specs.Shape.{AreLimited}
use Rattle.proof_tree.specs.Text.{split_text}
use Rattle.proof_check.specs.declared.node_line.SplitLine.{SplitLine}
use Rattle.proof_check.specs.declared.node_line.NodeLine.{NodeLine}
use Rattle.proof_check.specs.declared.node_line.NodeLine.TheVariants.{Leaf, Split}

-- each of these characters marks a child without a text, or one with a text
pub record AreMarks (marked : List ℕ) : Type 0 where
  pub each : (i : ℕ) → i < length marked → (slice_index marked i ≡ 46) ⊎ (slice_index marked i ≡ 43)

-- the line of a split, with m facilities free, on one of the first 256 facilities or locations
pub record IsSplitLine (m : ℕ) (line : List ℕ) (s : SplitLine) : Type 0 where
  pub u : AreLimited m s.u.items
  pub number : s.number < 256
  pub marks : length s.marks.items ≡ m
  pub marked : AreMarks s.marks.items
  pub is : line ++ 10 ∷ [] ≡ split_text s.side s.number s.marks.items s.u.items

-- the line of a leaf or a split
abbrev pub IsNodeLine : ℕ → List ℕ → NodeLine → Type 0
IsNodeLine m line (Leaf u) = AreLimited m u.items × (line ≡ codes "x" ++ numbers_text u.items)
IsNodeLine m line (Split s) = IsSplitLine m line s
