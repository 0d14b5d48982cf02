-- The text of a tree: lines in preorder. Each tree has exactly one text.
use Rattle.std.specs.Prelude.{ℕ, ◌+◌, ◌++◌, ◌∷◌, [], List, drop, ℤ, pos, codes, Option, Some, None}
use Rattle.qap_io.specs.Number.{from_one}
use Rattle.qap_lines.specs.LineText.{line_text, numbers_text}
use Rattle.qap_proof.specs.Text.{letter}
use Rattle.qap_proof.specs.declared.side.Side.{Side}
use Rattle.proof_tree.specs.Tree.{PairRows, Image, by_one, by_both, Tree, leaf, split, Children, no_children, closed, image, grown}

-- numbers separated by one blank, each row on a line
abbrev pub rows_text : List (List ℤ) → List ℕ
rows_text [] = []
rows_text (row ∷ rows) = drop 1 (numbers_text row) ++ 10 ∷ rows_text rows

-- `p` and the scale, and the rows
abbrev pub own_text : Option PairRows → List ℕ
own_text None = []
own_text (Some P) = line_text (codes "p") (pos P.scale ∷ []) ++ rows_text P.rows

-- for each child a character: `.` if it has no text, else `+`
abbrev pub marks : Children → List ℕ
marks no_children = []
marks (closed rest) = 46 ∷ marks rest
marks (image m rest) = 43 ∷ marks rest
marks (grown t rest) = 43 ∷ marks rest

-- `s` and a facility, or `t` and a location, counted from 1, the marks, and the numbers of the line
abbrev pub split_text : Side → ℕ → List ℕ → List ℤ → List ℕ
split_text side number marked u = letter side ++ numbers_text (pos (number + 1) ∷ []) ++ 32 ∷ marked ++ numbers_text u ++ 10 ∷ []

-- `m`, the number of an earlier child and a permutation; or `g`, such a number and two permutations; all counted from 1
abbrev pub image_text : Image → List ℕ
image_text (by_one j m) = line_text (codes "m") (pos (j + 1) ∷ from_one m)
image_text (by_both j s t) = line_text (codes "g") (pos (j + 1) ∷ from_one s ++ from_one t)

abbrev mutual
  -- a node: its own pair duals, if it has any, and its line; behind a split's the children that have a text
  pub tree_text : Tree → List ℕ
  tree_text (leaf d) = own_text d.own ++ line_text (codes "x") d.u
  tree_text (split d side number children) = own_text d.own ++ split_text side number (marks children) d.u ++ children_text children

  -- the texts of the children that have one, in order
  pub children_text : Children → List ℕ
  children_text no_children = []
  children_text (closed rest) = children_text rest
  children_text (image m rest) = image_text m ++ children_text rest
  children_text (grown t rest) = tree_text t ++ children_text rest
