-- What a text of version 2 states before its tree.
use Rattle.std.proofs.Common.{◌≡◌, ◌++◌, List, [], ◌∷◌, ℕ, length, pos, refl}
use Rattle.std.specs.Prelude.{codes}
use Rattle.std.specs.Fmt.{digits}
use Rattle.qap_io.specs.Number.{from_one}
use Rattle.qap_lines.specs.LineText.{line_text}
use Rattle.qap_proof.proofs.HeadTexts.{in_parts}
use Rattle.qap_proof.specs.Text.{bound_text, root_text}
use Rattle.proof_tree.specs.Claim.{PairClaim, pair_proof_text}
use Rattle.proof_tree.specs.Text.{tree_text}

-- the line that states version 2
pub version_line : line_text (codes "qapproof") (pos 2 ∷ []) ≡ codes "qapproof 2\n"
unfolding digits
version_line = refl

abbrev pub behind_cost : PairClaim → List ℕ
behind_cost C =
    line_text (codes "perm") (from_one C.permutation) ++ (root_text C.root.facilities C.root.places ++ (bound_text C.cost C.bound ++ (tree_text C.tree ++ codes "end\n")))

abbrev pub behind_size : PairClaim → List ℕ
behind_size C = line_text (codes "cost") (C.cost ∷ []) ++ behind_cost C

abbrev pub behind_version : PairClaim → List ℕ
behind_version C = line_text (codes "n") (pos (length C.permutation) ∷ []) ++ behind_size C

-- the text of a proof is the line of its version and what is behind it
pub pair_proof_parts : (C : PairClaim) → pair_proof_text C ≡ line_text (codes "qapproof") (pos 2 ∷ []) ++ behind_version C
pair_proof_parts C =
    in_parts (line_text (codes "qapproof") (pos 2 ∷ [])) (line_text (codes "n") (pos (length C.permutation) ∷ [])) (line_text (codes "cost") (C.cost ∷ []))
    (line_text (codes "perm") (from_one C.permutation)) (root_text C.root.facilities C.root.places) (bound_text C.cost C.bound) (tree_text C.tree) (codes "end\n")
