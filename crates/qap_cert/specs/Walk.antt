-- What walking along the lines of a tree finds, without storing the tree.
use Rattle.std.specs.Prelude.{◌≡◌, ℕ, ◌-◌, ◌<◌, ◌++◌, [], List, length, ℤ, codes, Option, Some, None}
use Rattle.qap_cost.specs.Instance.{Problem}
use Rattle.qap_cost.specs.Placement.{Placement}
use Rattle.qap_cert.specs.Fault.{IsTreeFault}
use Rattle.qap_lines.specs.Line.{line_after}
use Rattle.gilmore_lawler.specs.Closing.{AreDuals}
use Rattle.qap_cert.specs.Shape.{HasShape, AllHaveShape, child_count}
use Rattle.qap_lines.specs.LineText.{numbers_text}
use Rattle.qap_cert.specs.Text.{tree_text, trees_text}
use Rattle.qap_cert.specs.TextFault.{IsTreeTextFault}
use Rattle.qap_cert.specs.Tree.{Node, bound, Nodes, node_count, nodes_count}
use Rattle.qap_cert.specs.Valid.{Valid}
use Rattle.qap_cert.specs.declared.error.CertError.{CertError}
use Rattle.qap_cert.specs.declared.version.Version.{Version}

-- the text begins with the lines of a tree that has a property; the rest follows, from the line next on
pub record BeginsWithTree (v : Version) (n : ℕ) (placed : List ℕ) (line : ℕ) (text rest : List ℕ) (next : ℕ) (P : Node → Type 0) : Type 0 where
  pub tree : Node
  pub shape : HasShape v n placed tree
  pub is : text ≡ tree_text v tree ++ rest
  pub next_is : next ≡ line_after line (node_count tree)
  pub holds : P tree

-- likewise for this many trees in sequence
pub record BeginsWithTrees (v : Version) (n : ℕ) (placed : List ℕ) (count line : ℕ) (text rest : List ℕ) (next : ℕ) (P : Nodes → Type 0) : Type 0 where
  pub trees : Nodes
  pub shapes : AllHaveShape v n placed trees
  pub counted : child_count trees ≡ count
  pub is : text ≡ trees_text v trees ++ rest
  pub next_is : next ≡ line_after line (nodes_count trees)
  pub holds : P trees

-- the text is the lines of a tree that has a property, and the end
pub record EndsBehindTree (v : Version) (n : ℕ) (text : List ℕ) (P : Node → Type 0) : Type 0 where
  pub tree : Node
  pub shape : HasShape v n [] tree
  pub is : text ≡ tree_text v tree ++ codes "end\n"
  pub holds : P tree

-- nothing is known about the node, or the nodes
abbrev pub Any : {X : Type 0} → X → Type 0
Any x = Unit {0}

-- whether the tree, which begins at this line, is valid at the node, and its first fault if not
abbrev pub IsToldOf : Problem → ℤ → Placement → ℕ → Option CertError → Node → Type 0
IsToldOf I g x line None t = Valid I g x t
IsToldOf I g x line (Some e) t = IsTreeFault I g x line t e

-- the line spells duals for the node; the report says whether they close it, and if not the fault
pub record ClosesOrTells (I : Problem) (g : ℤ) (x : Placement) (line : ℕ) (bytes : List ℕ) (fault : Option CertError) : Type 0 where
  pub u : List ℤ
  pub v : List ℤ
  pub duals : AreDuals (x.size - length x.facilities) u v
  pub spelled : bytes ≡ codes "b" ++ numbers_text (u ++ v)
  pub told : IsToldOf I g x line fault (bound u v)

-- fewer than this many trees are at the beginning, and a fault follows them
abbrev pub IsFaultBefore : Version → ℕ → List ℕ → ℕ → ℕ → List ℕ → CertError → Type 0
IsFaultBefore v n placed count line text e =
    (before : Nodes) × (rest : List ℕ) × (text ≡ trees_text v before ++ rest) × AllHaveShape v n placed before × (child_count before < count)
    × IsTreeTextFault v n (n - length placed) placed (line_after line (nodes_count before)) rest e
