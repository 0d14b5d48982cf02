-- The text of a proof.
use Rattle.std.specs.Prelude.{◌≡◌, ℕ, ◌+◌, ◌++◌, ◌∷◌, [], List, length, ℤ, pos, codes, int_lt, if◌then◌else◌, Option, Some, None}
use Rattle.qap_io.specs.Number.{from_one}
use Rattle.qap_lines.specs.LineText.{line_text}
use Rattle.qap_proof.specs.Claim.{Claim, IsProof}
use Rattle.qap_proof.specs.Tree.{Pair, Split, Node, closed, split, cut, mirrored, Nodes, no_nodes, node}
use Rattle.qap_proof.specs.declared.side.Side.{Side}
use Rattle.qap_proof.specs.declared.side.Side.TheVariants.{Facility, Location}

-- the beginning of a split's line
abbrev pub letter : Side → List ℕ
letter Facility = codes "s"
letter Location = codes "t"

-- the numbers of a split's duals, first those of the rows, then those of the columns; none if it has no duals
abbrev pub numbers_of_duals : Option Pair → List ℤ
numbers_of_duals None = []
numbers_of_duals (Some d) = d.u ++ d.v

-- the facility or the location, counted from 1, and the duals
abbrev pub split_numbers : Split → List ℤ
split_numbers s = pos (s.number + 1) ∷ numbers_of_duals s.duals

-- a line for each node, in preorder: `b` and duals; `s` and a facility or `t` and a location, and duals if there are any; `c`; or `m`,
-- the number of an earlier child and a permutation, all counted from 1
abbrev mutual
  pub tree_text : Node → List ℕ
  tree_text (closed d) = line_text (codes "b") (d.u ++ d.v)
  tree_text (split s children) = line_text (letter s.side) (split_numbers s) ++ trees_text children
  tree_text cut = line_text (codes "c") []
  tree_text (mirrored j m) = line_text (codes "m") (pos (j + 1) ∷ from_one m)

  pub trees_text : Nodes → List ℕ
  trees_text no_nodes = []
  trees_text (node t rest) = tree_text t ++ trees_text rest

-- facilities and locations alternately, counted from 1
abbrev pub by_turns : List ℕ → List ℕ → List ℤ
by_turns (f ∷ facilities) (k ∷ places) = pos (f + 1) ∷ pos (k + 1) ∷ by_turns facilities places
by_turns _ _ = []

-- the line of a nonempty root
abbrev pub root_text : List ℕ → List ℕ → List ℕ
root_text [] places = []
root_text (f ∷ facilities) places = line_text (codes "node") (by_turns (f ∷ facilities) places)

-- the line of a bound that is below the cost
abbrev pub bound_text : ℤ → ℤ → List ℕ
bound_text c g = if int_lt g c then line_text (codes "bound") (g ∷ []) else []

-- the version, the size, the cost, the permutation, the root, the bound, the tree, and the end
abbrev pub proof_text : Claim → List ℕ
proof_text C =
    line_text (codes "qapproof") (pos 1 ∷ []) ++ line_text (codes "n") (pos (length C.permutation) ∷ [])
    ++ line_text (codes "cost") (C.cost ∷ []) ++ line_text (codes "perm") (from_one C.permutation)
    ++ root_text C.root.facilities C.root.places ++ bound_text C.cost C.bound ++ tree_text C.tree ++ codes "end\n"

-- the text is that of the proof
pub record IsProofText (text : List ℕ) (C : Claim) : Type 0 where
  pub proof : IsProof C
  pub is : text ≡ proof_text C
