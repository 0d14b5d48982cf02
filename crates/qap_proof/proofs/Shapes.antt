-- The children of a split, whose shape is judged in this order.
use Rattle.std.proofs.Common.{◌≡◌, ℕ, suc, ◌+◌, ◌<◌, ◌≤◌, ◌∷◌, List, length, get_or, drop, sym, ◌∙◌, ap, ap₂, subst, inl, inr, arith, Bool, Result, Ok, Err, ◌⊎◌}
use Rattle.std.proofs.Math.Seq.{drop-cons}
use Rattle.std.specs.Prelude.{MatchResult}
use Rattle.qap_cost.specs.Placement.{Placement}
use Rattle.qap_lines.specs.Line.{line_after}
use Rattle.qap_proof.proofs.Rows.{line_after-more}
use Rattle.qap_proof.specs.Fault.{IsShapeFault, IsShapeFaultAmong, IsSplitFault}
use Rattle.qap_proof.specs.Memory.{node_of, nodes_of}
use Rattle.qap_proof.specs.Shape.{HasShape, AllHaveShape, IsSplit, free_count, has_duals}
use Rattle.qap_proof.specs.Tree.{Split, Node, split, Nodes, node, node_count, nodes_count, child_count, child_of}
use Rattle.qap_proof.specs.declared.error.ProofError.{ProofError}
use Rattle.qap_proof.specs.declared.error.ProofError.TheVariants.{OutOfMemory}
use Rattle.qap_proof.specs.declared.tree.Tree.{Tree}

-- the rest, from number c on, are still to be judged, from this line on; what holds of them holds of all
pub record Judged (x : Placement) (s : Split) (line next c : ℕ) (all rest : Nodes) : Type 0 where
  pub shape : AllHaveShape x s c rest → AllHaveShape x s 0 all
  pub fault : (e : ProofError) → IsShapeFaultAmong x s c next rest e → IsShapeFaultAmong x s 0 line all e
  pub lines : line_after next (nodes_count rest) ≡ line_after line (nodes_count all)
  pub small : next ≤ 18446744073709551615

-- the tree of number i is the first of those that are still to be judged
pub Judged-at : (x : Placement) (s : Split) (line next : ℕ) (ts : List Tree) (i : ℕ) (t : Tree) → i < length ts → t ≡ get_or ts i t → Judged x s line next i (nodes_of ts) (nodes_of (drop i ts))
    → Judged x s line next i (nodes_of ts) (node (node_of t) (nodes_of (drop (i + 1) ts)))
Judged-at x s line next ts i t within is h =
    let one : suc i ≡ i + 1 = omega arith in
    let at : drop i ts ≡ t ∷ drop (i + 1) ts = drop-cons ts i t within ∙ ap₂ (λ (u : Tree) (j : ℕ). u ∷ drop j ts) (sym is) one in
    subst (λ (us : List Tree). Judged x s line next i (nodes_of ts) (nodes_of us)) at h

-- the next child has the shape: the others are left, from the line behind its own
pub Judged-more : (x : Placement) (s : Split) (line next after c : ℕ) (all : Nodes) (t : Node) (rest : Nodes) → Judged x s line next c all (node t rest) → HasShape (child_of x s c) c (has_duals s.duals) t → after ≡ line_after next (node_count t)
    → Judged x s line after (c + 1) all rest
Judged-more x s line next after c all t rest h shaped is = record {
  shape = λ others. h.shape (shaped, others);
  fault = λ e others. h.fault e (inr (shaped, subst (λ (j : ℕ). IsShapeFaultAmong x s (c + 1) j rest e) is others));
  lines = ap (λ (j : ℕ). line_after j (nodes_count rest)) is ∙ line_after-more next (node_count t) (nodes_count rest) ∙ h.lines;
  small = omega arith;
}

-- the first fault of the next child is the first of all children
pub Judged-fault : (x : Placement) (s : Split) (line next c : ℕ) (all : Nodes) (t : Node) (rest : Nodes) (e : ProofError) → Judged x s line next c all (node t rest) → IsShapeFault (child_of x s c) c (has_duals s.duals) next t e
    → IsShapeFaultAmong x s 0 line all e
Judged-fault x s line next c all t rest e h fault = h.fault e (inl fault)

-- what a split has, from what its children have
pub Judged-split : (x : Placement) (earlier : ℕ) (duals : Bool) (line below : ℕ) (t : Node) (s : Split) (children : Nodes) (r : Result ℕ ProofError) → t ≡ split s children → IsSplit x s → child_count children ≡ free_count x → below ≡ line_after line 1
    → MatchResult r (λ next. AllHaveShape x s 0 children × (next ≡ line_after below (nodes_count children))) (λ e. (e ≡ OutOfMemory) ⊎ IsShapeFaultAmong x s 0 below children e)
    → MatchResult r (λ next. HasShape x earlier duals t × (next ≡ line_after line (node_count t))) (λ e. (e ≡ OutOfMemory) ⊎ IsShapeFault x earlier duals line t e)
Judged-split x earlier duals line below t s children (Ok next) is may count start h =
    subst (λ (u : Node). HasShape x earlier duals u × (next ≡ line_after line (node_count u))) (sym is)
    ((may, count, h.0), h.1 ∙ ap (λ (k : ℕ). line_after k (nodes_count children)) start ∙ line_after-more line 1 (nodes_count children))
Judged-split x earlier duals line below t s children (Err e) is may count start h =
    elim h [
      | inl memory ↦ inl memory
      | inr fault ↦ inr (subst (λ (u : Node). IsShapeFault x earlier duals line u e) (sym is)
          (inr (may, count, subst (λ (k : ℕ). IsShapeFaultAmong x s 0 k children e) start fault)))
    ]

-- a fault of the split itself is the first one of the tree
pub IsShapeFault-split : (x : Placement) (earlier : ℕ) (duals : Bool) (line k : ℕ) (t : Node) (s : Split) (children : Nodes) (e : ProofError) → t ≡ split s children → child_count children ≡ k → IsSplitFault x line s k e
    → IsShapeFault x earlier duals line t e
IsShapeFault-split x earlier duals line k t s children e is count fault =
    subst (λ (u : Node). IsShapeFault x earlier duals line u e) (sym is) (inl (subst (λ (j : ℕ). IsSplitFault x line s j e) (sym count) fault))
