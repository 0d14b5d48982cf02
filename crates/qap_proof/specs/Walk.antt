-- What walking along the lines of a tree finds, without storing the tree.
use Rattle.std.specs.Prelude.{◌≡◌, ℕ, ◌<◌, ◌++◌, List, length, ℤ, slice_index_or, pos, codes, Bool, false, Option, Some, None, ◌⊎◌}
use Rattle.qap_cost.specs.Instance.{Problem}
use Rattle.qap_cost.specs.Placement.{Placement}
use Rattle.qap_lines.specs.Line.{line_after}
use Rattle.qap_proof.specs.Fault.{IsClosedFault, IsTreeFault, IsTreeFaultAmong}
use Rattle.qap_proof.specs.Shape.{HasShape, AllHaveShape, free_count, has_duals}
use Rattle.qap_proof.specs.Text.{tree_text, trees_text}
use Rattle.qap_proof.specs.TextFault.{IsFaultAmong, IsTreeTextFault}
use Rattle.qap_proof.specs.Tree.{Pair, Split, Node, Nodes, node_count, nodes_count, child_count, child_of, facility_on, location_on, Place}
use Rattle.gilmore_lawler.specs.Closing.{Closes}
use Rattle.qap_proof.specs.Valid.{MayFit, Reaches, Valid, AllValid}
use Rattle.qap_proof.specs.declared.error.ProofError.{ProofError}
use Rattle.qap_proof.specs.declared.error.ProofError.TheVariants.{NotFeasible}

-- the text begins with the lines of a tree at x that has a property; the rest follows, from the line next on
pub record BeginsWithTree (x : Placement) (earlier : ℕ) (duals : Bool) (line : ℕ) (text rest : List ℕ) (next : ℕ) (P : Node → Type 0) : Type 0 where
  pub tree : Node
  pub shape : HasShape x earlier duals tree
  pub is : text ≡ tree_text tree ++ rest
  pub next_is : next ≡ line_after line (node_count tree)
  pub holds : P tree

-- likewise for the first `count` children of a split of x
pub record BeginsWithTrees (x : Placement) (s : Split) (count line : ℕ) (text rest : List ℕ) (next : ℕ) (P : Nodes → Type 0) : Type 0 where
  pub trees : Nodes
  pub shapes : AllHaveShape x s 0 trees
  pub counted : child_count trees ≡ count
  pub is : text ≡ trees_text trees ++ rest
  pub next_is : next ≡ line_after line (nodes_count trees)
  pub holds : P trees

-- the text is the lines of a tree at x that has a property, and the end
pub record EndsBehindTree (x : Placement) (text : List ℕ) (P : Node → Type 0) : Type 0 where
  pub tree : Node
  pub shape : HasShape x 0 false tree
  pub is : text ≡ tree_text tree ++ codes "end\n"
  pub holds : P tree

-- after some but not all of the children of a split of x, the next one has this fault
abbrev pub IsFaultBefore : Placement → Split → ℕ → List ℕ → ProofError → Type 0
IsFaultBefore x s line text e =
    IsFaultAmong x s line text (λ c line rest. IsTreeTextFault (free_count (child_of x s c)) (child_of x s c) c (has_duals s.duals) line rest e)

-- what is reported about the tree, which begins at this line, given an optional earlier fault: that one; or
-- whether the tree is valid at its position, and its first fault if not
abbrev pub IsToldOf : Problem → ℤ → Place → ℕ → Option ProofError → Option ProofError → Node → Type 0
IsToldOf I g p line (Some d) after t = after ≡ Some d
IsToldOf I g p line None None t = Valid I g p t
IsToldOf I g p line None (Some e) t = IsTreeFault I g p line t e

-- likewise for the first children of a split of x
abbrev pub IsToldOfAll : Problem → ℤ → Placement → Split → ℕ → Option ProofError → Option ProofError → Nodes → Type 0
IsToldOfAll I g x s line (Some d) after ts = after ≡ Some d
IsToldOfAll I g x s line None None ts = AllValid I g x s 0 ts
IsToldOfAll I g x s line None (Some e) ts = IsTreeFaultAmong I g x s 0 line ts e

-- likewise for a split with this line, given its children
abbrev pub IsToldOfSplit : Problem → ℤ → Placement → Split → ℕ → Option ProofError → Option ProofError → Nodes → Type 0
IsToldOfSplit I g x s line (Some d) after ts = after ≡ Some d
IsToldOfSplit I g x s line None None ts = MayFit I x s.duals × AllValid I g x s 0 ts
IsToldOfSplit I g x s line None (Some e) ts =
    ((e ≡ NotFeasible line) × (MayFit I x s.duals → ⊥)) ⊎ (MayFit I x s.duals × IsTreeFaultAmong I g x s 0 (line_after line 1) ts e)

-- likewise for a closed node
abbrev pub IsToldOfClosed : Problem → ℤ → Placement → ℕ → Option ProofError → Option ProofError → Pair → Type 0
IsToldOfClosed I g x line (Some d) after u = after ≡ Some d
IsToldOfClosed I g x line None None d = Closes I g x d.u d.v
IsToldOfClosed I g x line None (Some e) d = IsClosedFault I g x line d e

-- likewise for the duals of a split, if it has any
abbrev pub IsToldOfDuals : Problem → Placement → Split → ℕ → Option ProofError → Option ProofError → Type 0
IsToldOfDuals I x s line (Some d) after = after ≡ Some d
IsToldOfDuals I x s line None None = MayFit I x s.duals
IsToldOfDuals I x s line None (Some e) = (e ≡ NotFeasible line) × (MayFit I x s.duals → ⊥)

-- the values of the duals of a split, if it has any, for each child
pub record AreReached (I : Problem) (x : Placement) (s : Split) (values : List ℤ) : Type 0 where
  pub count : (d : Pair) → s.duals ≡ Some d → length values ≡ free_count x
  pub each : (d : Pair) (c : ℕ) → s.duals ≡ Some d → c < free_count x
      → Reaches I x d (facility_on s.side x s.number c) (location_on s.side x s.number c) (slice_index_or values c (pos 0))
