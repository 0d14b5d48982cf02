-- There is one first fault of a proof's shape, and of what it says.
use Rattle.std.proofs.Common.{◌≡◌, ℕ, ◌+◌, length, sym, ◌∙◌, inl, inr, arith}
use Rattle.std.specs.Prelude.{ℤ, Bool, false, Option, Some, None}
use Rattle.qap_cost.specs.Instance.{Problem}
use Rattle.qap_cost.specs.Objective.{cost_of}
use Rattle.qap_cost.specs.Placement.{Placement, IsPlacement}
use Rattle.qap_lines.specs.Line.{line_after}
use Rattle.qap_proof.proofs.Faults.{may_pair_fault, number_fault, split_fault, shape_fault, tree_fault}
use Rattle.qap_proof.proofs.Validity.{IsPlace, node_placement}
use Rattle.qap_proof.specs.Claim.{Claim, IsProof, tree_line}
use Rattle.qap_proof.specs.Fault.{IsPairFault, MayBePairFault, IsNumberFault, IsSplitFault, IsShapeFault, IsShapeFaultAmong, IsClaimFault, IsClosedFault, IsPermMisfit, IsTreeFault, IsTreeFaultAmong, IsFault}
use Rattle.qap_proof.specs.Shape.{HasShape, AllHaveShape, free_count, has_duals}
use Rattle.qap_proof.specs.Tree.{Pair, Split, Node, closed, split, cut, mirrored, Nodes, no_nodes, node, node_count, child_count, IsFreeOn, child_of, Place, whole, child, node_at}
use Rattle.qap_proof.specs.declared.error.ProofError.{ProofError}
use Rattle.qap_proof.specs.declared.side.Side.{Side}

one_pair_fault : (m line : ℕ) (p : Pair) (d e : ProofError) → IsPairFault m line p d → IsPairFault m line p e → d ≡ e
one_pair_fault m line p d e (inl a) (inl b) = a.0 ∙ sym b.0
one_pair_fault m line p d e (inl a) (inr b) = absurd (a.1 (b.1, b.2))
one_pair_fault m line p d e (inr a) (inl b) = absurd (b.1 (a.1, a.2))
one_pair_fault m line p d e (inr a) (inr b) = a.0 ∙ sym b.0

one_may_pair_fault : (m line : ℕ) (o : Option Pair) (d e : ProofError) → MayBePairFault m line o d → MayBePairFault m line o e → d ≡ e
one_may_pair_fault m line None d e a b = absurd a
one_may_pair_fault m line (Some p) d e a b = one_pair_fault m line p d e a b

-- what a split is on has one fault at most
pub one_number_fault : (x : Placement) (line : ℕ) (side : Side) (i : ℕ) (d e : ProofError) → IsNumberFault x line side i d → IsNumberFault x line side i e → d ≡ e
one_number_fault x line side i d e (inl a) (inl b) = a.0 ∙ sym b.0
one_number_fault x line side i d e (inl a) (inr b) = absurd (omega (arith, a.1, b.1))
one_number_fault x line side i d e (inr a) (inl b) = absurd (omega (arith, a.1, b.1))
one_number_fault x line side i d e (inr a) (inr b) = a.0 ∙ sym b.0

one_split_fault : (x : Placement) (line : ℕ) (s : Split) (children : ℕ) (d e : ProofError) → IsSplitFault x line s children d → IsSplitFault x line s children e → d ≡ e
one_split_fault x line s children d e (inl a) (inl b) = one_number_fault x line s.side s.number d e a b
one_split_fault x line s children d e (inl a) (inr (inl b)) = absurd (number_fault x line s.side s.number d a b.0 b.1)
one_split_fault x line s children d e (inl a) (inr (inr b)) = absurd (number_fault x line s.side s.number d a b.1.some b.1.free)
one_split_fault x line s children d e (inr (inl a)) (inl b) = absurd (number_fault x line s.side s.number e b a.0 a.1)
one_split_fault x line s children d e (inr (inl a)) (inr (inl b)) = one_may_pair_fault (free_count x) line s.duals d e a.2 b.2
one_split_fault x line s children d e (inr (inl a)) (inr (inr b)) = absurd (may_pair_fault (free_count x) line s.duals d a.2 b.1.duals)
one_split_fault x line s children d e (inr (inr a)) (inl b) = absurd (number_fault x line s.side s.number e b a.1.some a.1.free)
one_split_fault x line s children d e (inr (inr a)) (inr (inl b)) = absurd (may_pair_fault (free_count x) line s.duals e b.2 a.1.duals)
one_split_fault x line s children d e (inr (inr a)) (inr (inr b)) = a.0 ∙ sym b.0

mutual
  one_shape_fault : (t : Node) (x : Placement) (earlier : ℕ) (duals : Bool) (line : ℕ) (d e : ProofError) → IsShapeFault x earlier duals line t d → IsShapeFault x earlier duals line t e → d ≡ e
  one_shape_fault (closed p) x earlier duals line d e a b = one_pair_fault (free_count x) line p d e a b
  one_shape_fault (split s children) x earlier duals line d e a b =
      elim a [
        | inl p ↦ elim b [
          | inl q ↦ one_split_fault x line s (child_count children) d e p q
          | inr q ↦ absurd (split_fault x line s (child_count children) d p q.0 q.1)
        ]
        | inr p ↦ elim b [
          | inl q ↦ absurd (split_fault x line s (child_count children) e q p.0 p.1)
          | inr q ↦ one_shape_fault_among children x s 0 (line_after line 1) d e p.2 q.2
        ]
      ]
  one_shape_fault cut x earlier duals line d e a b = a.0 ∙ sym b.0
  one_shape_fault (mirrored j m) x earlier duals line d e a b =
      elim a [
        | inl p ↦ elim b [
          | inl q ↦ p.0 ∙ sym q.0
          | inr q ↦ absurd (omega (arith, p.1, q.1))
        ]
        | inr p ↦ elim b [
          | inl q ↦ absurd (omega (arith, p.1, q.1))
          | inr q ↦ p.0 ∙ sym q.0
        ]
      ]

  one_shape_fault_among : (ts : Nodes) (x : Placement) (s : Split) (c line : ℕ) (d e : ProofError) → IsShapeFaultAmong x s c line ts d → IsShapeFaultAmong x s c line ts e → d ≡ e
  one_shape_fault_among no_nodes x s c line d e a b = absurd a
  one_shape_fault_among (node t rest) x s c line d e a b =
      elim a [
        | inl p ↦ elim b [
          | inl q ↦ one_shape_fault t (child_of x s c) c (has_duals s.duals) line d e p q
          | inr q ↦ absurd (shape_fault t (child_of x s c) c (has_duals s.duals) line d p q.0)
        ]
        | inr p ↦ elim b [
          | inl q ↦ absurd (shape_fault t (child_of x s c) c (has_duals s.duals) line e q p.0)
          | inr q ↦ one_shape_fault_among rest x s (c + 1) (line_after line (node_count t)) d e p.1 q.1
        ]
      ]

-- there is one first fault of a proof's shape at most
pub one_claim_fault : (C : Claim) (d e : ProofError) → IsClaimFault C d → IsClaimFault C e → d ≡ e
one_claim_fault C d e (inl a) (inl b) = a.0 ∙ sym b.0
one_claim_fault C d e (inl a) (inr (inl b)) = absurd (a.1 b.1)
one_claim_fault C d e (inl a) (inr (inr (inl b))) = absurd (a.1 b.1)
one_claim_fault C d e (inl a) (inr (inr (inr b))) = absurd (a.1 b.0)
one_claim_fault C d e (inr (inl a)) (inl b) = absurd (b.1 a.1)
one_claim_fault C d e (inr (inl a)) (inr (inl b)) = a.0 ∙ sym b.0
one_claim_fault C d e (inr (inl a)) (inr (inr (inl b))) = absurd (a.2 b.2)
one_claim_fault C d e (inr (inl a)) (inr (inr (inr b))) = absurd (a.2 b.1)
one_claim_fault C d e (inr (inr (inl a))) (inl b) = absurd (b.1 a.1)
one_claim_fault C d e (inr (inr (inl a))) (inr (inl b)) = absurd (b.2 a.2)
one_claim_fault C d e (inr (inr (inl a))) (inr (inr (inl b))) = a.0 ∙ sym b.0
one_claim_fault C d e (inr (inr (inl a))) (inr (inr (inr b))) = absurd (a.3 b.2)
one_claim_fault C d e (inr (inr (inr a))) (inl b) = absurd (b.1 a.0)
one_claim_fault C d e (inr (inr (inr a))) (inr (inl b)) = absurd (b.2 a.1)
one_claim_fault C d e (inr (inr (inr a))) (inr (inr (inl b))) = absurd (b.3 a.2)
one_claim_fault C d e (inr (inr (inr a))) (inr (inr (inr b))) = one_shape_fault C.tree C.root 0 false (tree_line C.root C.cost C.bound) d e a.3 b.3

one_closed_fault : (I : Problem) (g : ℤ) (x : Placement) (line : ℕ) (p : Pair) (d e : ProofError) → IsClosedFault I g x line p d → IsClosedFault I g x line p e → d ≡ e
one_closed_fault I g x line p d e (inl a) (inl b) = a.0 ∙ sym b.0
one_closed_fault I g x line p d e (inl a) (inr b) = absurd (a.1 b.1)
one_closed_fault I g x line p d e (inr a) (inl b) = absurd (b.1 a.1)
one_closed_fault I g x line p d e (inr a) (inr b) = a.0 ∙ sym b.0

mutual
  one_tree_fault : (t : Node) (I : Problem) (g : ℤ) (p : Place) (earlier : ℕ) (duals : Bool) (line : ℕ) (d e : ProofError) → IsPlace p → HasShape (node_at p) earlier duals t → IsTreeFault I g p line t d → IsTreeFault I g p line t e → d ≡ e
  one_tree_fault (closed q) I g p earlier duals line d e place shape a b = one_closed_fault I g (node_at p) line q d e a b
  one_tree_fault (split s children) I g p earlier duals line d e place shape a b =
      elim a [
        | inl misfit ↦ elim b [
          | inl other ↦ misfit.0 ∙ sym other.0
          | inr below ↦ absurd (misfit.1 below.0)
        ]
        | inr here ↦ elim b [
          | inl misfit ↦ absurd (misfit.1 here.0)
          | inr there ↦
              one_tree_fault_among children I g (node_at p) s 0 (line_after line 1) d e (node_placement p place) shape.0.free (let some = shape.0.some in omega (arith, some, shape.1)) shape.2 here.1 there.1
        ]
      ]
  one_tree_fault cut I g (whole x) earlier duals line d e place shape a b = absurd a
  one_tree_fault cut I g (child x s c) earlier duals line d e place shape a b = a.0 ∙ sym b.0
  one_tree_fault (mirrored j m) I g (whole x) earlier duals line d e place shape a b = absurd a
  one_tree_fault (mirrored j m) I g (child x s c) earlier duals line d e place shape a b = a.0 ∙ sym b.0

  one_tree_fault_among : (ts : Nodes) (I : Problem) (g : ℤ) (x : Placement) (s : Split) (c line : ℕ) (d e : ProofError) → IsPlacement x → IsFreeOn s.side x s.number → c + child_count ts + length x.facilities ≡ x.size → AllHaveShape x s c ts
      → IsTreeFaultAmong I g x s c line ts d → IsTreeFaultAmong I g x s c line ts e → d ≡ e
  one_tree_fault_among no_nodes I g x s c line d e placement free count shapes a b = absurd a
  one_tree_fault_among (node t rest) I g x s c line d e placement free count shapes a b =
      let place : IsPlace (child x s c) = (placement, free, omega (arith, count)) in
      elim a [
        | inl p ↦ elim b [
          | inl q ↦ one_tree_fault t I g (child x s c) c (has_duals s.duals) line d e place shapes.0 p q
          | inr q ↦ absurd (tree_fault t I g (child x s c) c (has_duals s.duals) line d place shapes.0 p q.0)
        ]
        | inr p ↦ elim b [
          | inl q ↦ absurd (tree_fault t I g (child x s c) c (has_duals s.duals) line e place shapes.0 q p.0)
          | inr q ↦ one_tree_fault_among rest I g x s (c + 1) (line_after line (node_count t)) d e placement free (omega (arith, count)) shapes.1 p.1 q.1
        ]
      ]

one_misfit : (I : Problem) (C : Claim) (d e : ProofError) → IsPermMisfit I C.permutation C.cost d → IsPermMisfit I C.permutation C.cost e → d ≡ e
one_misfit I C d e (inl a) (inl b) = a.0 ∙ sym b.0
one_misfit I C d e (inl a) (inr b) = absurd (a.1 b.1)
one_misfit I C d e (inr a) (inl b) = absurd (b.1 a.1)
one_misfit I C d e (inr a) (inr b) = a.0 ∙ sym b.0

-- a permutation of the instance's size and of the cost that is stated is at no fault
no_misfit : (I : Problem) (C : Claim) (e : ProofError) → IsPermMisfit I C.permutation C.cost e → length C.permutation ≡ I.size → cost_of I C.permutation ≡ C.cost → ⊥
no_misfit I C e (inl size) same cost = size.1 same
no_misfit I C e (inr other) same cost = other.2 cost

-- there is one first fault at most of what a proof states
pub one_fault : (I : Problem) (C : Claim) (d e : ProofError) → IsProof C → IsFault I C d → IsFault I C e → d ≡ e
one_fault I C d e proof (inl a) (inl b) = one_misfit I C d e a b
one_fault I C d e proof (inl a) (inr b) = absurd (no_misfit I C d a b.0 b.1)
one_fault I C d e proof (inr a) (inl b) = absurd (no_misfit I C e b a.0 a.1)
one_fault I C d e proof (inr a) (inr b) =
    one_tree_fault C.tree I C.bound (whole C.root) 0 false (tree_line C.root C.cost C.bound) d e proof.root.placement proof.tree a.2 b.2
