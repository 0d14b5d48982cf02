-- The text of a certificate, in either version.
use Rattle.std.specs.Prelude.{◌≡◌, ℕ, ◌++◌, ◌∷◌, [], List, length, ℤ, pos, codes, int_lt, if◌then◌else◌}
use Rattle.qap_io.specs.Number.{from_one}
use Rattle.qap_lines.specs.LineText.{line_text}
use Rattle.qap_cert.specs.Certificate.{Claim, IsCertificate}
use Rattle.qap_cert.specs.Shape.{HasShape}
use Rattle.qap_cert.specs.Tree.{Node, split, bound, Nodes, no_nodes, node}
use Rattle.qap_cert.specs.Version.{version_number, split_numbers, MayBound}
use Rattle.qap_cert.specs.declared.version.Version.{Version}

-- a line for each node, in preorder: a split is `s`, in version 2 with its facility, and a bound is `b` with the duals of
-- the facilities and of the locations
abbrev mutual
  pub tree_text : Version → Node → List ℕ
  tree_text v (split f children) = line_text (codes "s") (split_numbers v f) ++ trees_text v children
  tree_text v (bound u w) = line_text (codes "b") (u ++ w)

  -- the same for nodes in a row
  pub trees_text : Version → Nodes → List ℕ
  trees_text v no_nodes = []
  trees_text v (node t rest) = tree_text v t ++ trees_text v rest

-- the version, the size, the cost and the permutation
abbrev pub head_text : Version → Claim → List ℕ
head_text v C =
    line_text (codes "qapcert") (pos (version_number v) ∷ []) ++ line_text (codes "n") (pos (length C.permutation) ∷ [])
    ++ line_text (codes "cost") (C.cost ∷ []) ++ line_text (codes "perm") (from_one C.permutation)

-- the line of a bound that is below the cost
abbrev pub bound_text : ℤ → ℤ → List ℕ
bound_text c g = if int_lt g c then line_text (codes "bound") (g ∷ []) else []

-- the first four lines, the bound if it is below the cost, the tree, and the end
abbrev pub certificate_text : Version → Claim → List ℕ
certificate_text v C = head_text v C ++ bound_text C.cost C.bound ++ tree_text v C.tree ++ codes "end\n"

-- the text is that of a certificate, in one of the versions that can hold it
pub record IsCertificateText (text : List ℕ) (C : Claim) : Type 0 where
  pub version : Version
  pub certificate : IsCertificate C
  pub bound : MayBound version C.cost C.bound
  pub tree : HasShape version (length C.permutation) [] C.tree
  pub is : text ≡ certificate_text version C
