-- The text of a list of parts.
use Rattle.std.specs.Prelude.{ℕ, List, [], ◌∷◌, ◌++◌}
use Rattle.qap_proof.specs.NodeText.{node_text}
use Rattle.qap_proof.specs.declared.missing.MissingPart.{MissingPart}

-- a line for each part, with its node
abbrev pub node_lines : List MissingPart → List ℕ
node_lines [] = []
node_lines (m ∷ ms) = node_text m.node ++ 10 ∷ node_lines ms
