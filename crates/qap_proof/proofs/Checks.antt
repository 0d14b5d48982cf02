-- The children of a split in memory, which are checked in this order.
use Rattle.std.proofs.Common.{◌≡◌, ℕ, suc, ◌+◌, ◌<◌, ◌≤◌, ◌∷◌, List, length, get_or, drop, sym, ◌∙◌, ap, ap₂, subst, inl, inr, arith}
use Rattle.std.proofs.Math.Seq.{drop-cons}
use Rattle.std.specs.Prelude.{ℤ}
use Rattle.qap_cost.specs.Instance.{Problem}
use Rattle.qap_cost.specs.Placement.{Placement}
use Rattle.qap_lines.specs.Line.{line_after}
use Rattle.qap_proof.proofs.Rows.{line_after-more}
use Rattle.qap_proof.specs.Fault.{IsTreeFault, IsTreeFaultAmong}
use Rattle.qap_proof.specs.Memory.{node_of, nodes_of}
use Rattle.qap_proof.specs.Shape.{AllHaveShape, IsSplit, free_count}
use Rattle.qap_proof.specs.Tree.{Split, Node, split, Nodes, node, node_count, nodes_count, child_count, whole, child}
use Rattle.qap_proof.specs.Valid.{Valid, AllValid, MayFit}
use Rattle.qap_proof.specs.declared.error.ProofError.{ProofError}
use Rattle.qap_proof.specs.declared.tree.Tree.{Tree}

-- of all children, the rest, from number c on, are still to be checked, from this line on; what holds of them holds of all
pub record Checked (I : Problem) (g : ℤ) (x : Placement) (s : Split) (line next c : ℕ) (all rest : Nodes) : Type 0 where
  pub valid : AllValid I g x s c rest → AllValid I g x s 0 all
  pub fault : (e : ProofError) → IsTreeFaultAmong I g x s c next rest e → IsTreeFaultAmong I g x s 0 line all e
  pub lines : line_after next (nodes_count rest) ≡ line_after line (nodes_count all)
  pub small : next ≤ 18446744073709551615
  pub shape : AllHaveShape x s c rest

-- the tree of number i is the first of those that are still to be checked
pub Checked-at : (I : Problem) (g : ℤ) (x : Placement) (s : Split) (line next : ℕ) (ts : List Tree) (i : ℕ) (t : Tree) → i < length ts → t ≡ get_or ts i t → Checked I g x s line next i (nodes_of ts) (nodes_of (drop i ts))
    → Checked I g x s line next i (nodes_of ts) (node (node_of t) (nodes_of (drop (i + 1) ts)))
Checked-at I g x s line next ts i t within is h =
    let one : suc i ≡ i + 1 = omega arith in
    let at : drop i ts ≡ t ∷ drop (i + 1) ts = drop-cons ts i t within ∙ ap₂ (λ (u : Tree) (j : ℕ). u ∷ drop j ts) (sym is) one in
    subst (λ (us : List Tree). Checked I g x s line next i (nodes_of ts) (nodes_of us)) at h

-- the next child is valid: the others are left, from the line behind its own
pub Checked-more : (I : Problem) (g : ℤ) (x : Placement) (s : Split) (line next after c : ℕ) (all : Nodes) (t : Node) (rest : Nodes) → Checked I g x s line next c all (node t rest) → Valid I g (child x s c) t → after ≡ line_after next (node_count t)
    → Checked I g x s line after (c + 1) all rest
Checked-more I g x s line next after c all t rest h valid is = record {
  valid = λ others. h.valid (valid, others);
  fault = λ e others. h.fault e (inr (valid, subst (λ (j : ℕ). IsTreeFaultAmong I g x s (c + 1) j rest e) is others));
  lines = ap (λ (j : ℕ). line_after j (nodes_count rest)) is ∙ line_after-more next (node_count t) (nodes_count rest) ∙ h.lines;
  small = omega arith;
  shape = h.shape.1;
}

-- the first fault of the next child is the first of all children
pub Checked-fault : (I : Problem) (g : ℤ) (x : Placement) (s : Split) (line next c : ℕ) (all : Nodes) (t : Node) (rest : Nodes) (e : ProofError) → Checked I g x s line next c all (node t rest) → IsTreeFault I g (child x s c) next t e
    → IsTreeFaultAmong I g x s 0 line all e
Checked-fault I g x s line next c all t rest e h fault = h.fault e (inl fault)

-- what a split shows, by what its children do
pub Valid-children : (I : Problem) (g : ℤ) (x : Placement) (s : Split) (ts : Nodes) → IsSplit x s → MayFit I x s.duals → child_count ts ≡ free_count x → AllValid I g x s 0 ts → Valid I g (whole x) (split s ts)
Valid-children I g x s ts is fits counted all = (is.free, fits, omega (arith, counted, is.some), all)
