-- The text of a node.
use Rattle.std.specs.Prelude.{ℕ, List, drop}
use Rattle.qap_cost.specs.Placement.{Placement}
use Rattle.qap_lines.specs.LineText.{numbers_text}
use Rattle.qap_proof.specs.Text.{by_turns}

-- facilities and locations alternately, counted from 1, separated by one blank
abbrev pub node_text : Placement → List ℕ
node_text x = drop 1 (numbers_text (by_turns x.facilities x.places))
