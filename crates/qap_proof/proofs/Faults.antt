-- What has a fault isn't a proof, or doesn't prove its bound.
use Rattle.std.proofs.Common.{◌≡◌, ℕ, ◌+◌, ◌<◌, length, sym, ◌∙◌, inl, inr, arith}
use Rattle.std.proofs.lemmas.Bool.{false≢true}
use Rattle.std.proofs.lemmas.Int.{ints}
use Rattle.std.proofs.lemmas.Option.{same_Some}
use Rattle.std.specs.Prelude.{ℤ, ◌+ℤ◌, ◌<ℤ◌, ◌≤ℤ◌, Bool, false, Option, Some, None}
use Rattle.qap_cost.specs.Instance.{Problem}
use Rattle.qap_cost.specs.Matrix.{dual_value}
use Rattle.qap_cost.specs.Placement.{Placement, IsPlacement, fixed_cost_of}
use Rattle.qap_lines.specs.Line.{line_after}
use Rattle.qap_proof.proofs.Covers.{Reaches-one}
use Rattle.qap_proof.proofs.Validity.{IsPlace, node_placement}
use Rattle.qap_proof.specs.Claim.{Claim, IsProof, Proves, tree_line}
use Rattle.qap_proof.specs.Fault.{IsPairFault, MayBePairFault, IsNumberFault, IsSplitFault, IsShapeFault, IsShapeFaultAmong, IsClaimFault, IsClosedFault, IsTreeFault, IsTreeFaultAmong, IsFault}
use Rattle.gilmore_lawler.specs.Closing.{AreDuals, Closes}
use Rattle.qap_proof.specs.Shape.{MayBeDuals, IsSplit, HasShape, AllHaveShape, free_count, has_duals}
use Rattle.qap_proof.specs.Tree.{Pair, Split, Node, closed, split, cut, mirrored, Nodes, no_nodes, node, node_count, child_count, IsFreeOn, child_of, facility_on, location_on, Place, whole, child, node_at}
use Rattle.qap_proof.specs.Valid.{Valid, AllValid}
use Rattle.qap_proof.specs.declared.error.ProofError.{ProofError}
use Rattle.qap_proof.specs.declared.side.Side.{Side}

-- duals of m rows and m columns, all in range, have no fault
pub pair_fault : (m line : ℕ) (d : Pair) (e : ProofError) → IsPairFault m line d e → AreDuals m d.u d.v → ⊥
pair_fault m line d e fault h =
    elim fault [
      | inl count ↦ count.1 (h.rows, h.columns)
      | inr range ↦ range.3 (h.u_range, h.v_range)
    ]

-- the same for the duals of a split, if it has any
pub may_pair_fault : (m line : ℕ) (o : Option Pair) (e : ProofError) → MayBePairFault m line o e → MayBeDuals m o → ⊥
may_pair_fault m line None e fault h = fault
may_pair_fault m line (Some d) e fault h = pair_fault m line d e fault h

-- what is free is at no fault
pub number_fault : (x : Placement) (line : ℕ) (side : Side) (i : ℕ) (e : ProofError) → IsNumberFault x line side i e → length x.facilities < x.size → IsFreeOn side x i → ⊥
number_fault x line side i e fault some free =
    elim fault [
      | inl deep ↦ absurd (omega (arith, deep.1, some))
      | inr taken ↦ taken.2 free
    ]

-- a split on what is free, with proper duals and a child for each free one, has no fault
pub split_fault : (x : Placement) (line : ℕ) (s : Split) (children : ℕ) (e : ProofError) → IsSplitFault x line s children e → IsSplit x s → children ≡ free_count x → ⊥
split_fault x line s children e fault h count =
    elim fault [
      | inl number ↦ number_fault x line s.side s.number e number h.some h.free
      | inr other ↦ elim other [
        | inl duals ↦ may_pair_fault (free_count x) line s.duals e duals.2 h.duals
        | inr width ↦ width.2 count
      ]
    ]

mutual
  pub shape_fault : (t : Node) (x : Placement) (earlier : ℕ) (duals : Bool) (line : ℕ) (e : ProofError) → IsShapeFault x earlier duals line t e → HasShape x earlier duals t → ⊥
  shape_fault (closed d) x earlier duals line e fault h = pair_fault (free_count x) line d e fault h
  shape_fault (split s children) x earlier duals line e fault h =
      elim fault [
        | inl own ↦ split_fault x line s (child_count children) e own h.0 h.1
        | inr below ↦ shape_fault_among children x s 0 (line_after line 1) e below.2 h.2
      ]
  shape_fault cut x earlier duals line e fault h = absurd (false≢true (sym fault.1 ∙ h))
  shape_fault (mirrored j m) x earlier duals line e fault h =
      elim fault [
        | inl none ↦ absurd (omega (arith, none.1, h.0))
        | inr moved ↦ moved.2 h.1
      ]

  shape_fault_among : (ts : Nodes) (x : Placement) (s : Split) (c line : ℕ) (e : ProofError) → IsShapeFaultAmong x s c line ts e → AllHaveShape x s c ts → ⊥
  shape_fault_among no_nodes x s c line e fault h = fault
  shape_fault_among (node t rest) x s c line e fault h =
      elim fault [
        | inl first ↦ shape_fault t (child_of x s c) c (has_duals s.duals) line e first h.0
        | inr later ↦ shape_fault_among rest x s (c + 1) (line_after line (node_count t)) e later.1 h.1
      ]

-- what has the shape of a proof has no fault of shape
pub claim_fault : (C : Claim) (e : ProofError) → IsClaimFault C e → IsProof C → ⊥
claim_fault C e fault h =
    elim fault [
      | inl cost ↦ cost.1 h.cost
      | inr other ↦ elim other [
        | inl root ↦ root.2 h.root
        | inr more ↦ elim more [
          | inl bound ↦ bound.3 h.bound
          | inr tree ↦ shape_fault C.tree C.root 0 false (tree_line C.root C.cost C.bound) e tree.3 h.tree
        ]
      ]
    ]

-- a node that its duals close has no fault
pub closed_fault : (I : Problem) (g : ℤ) (x : Placement) (line : ℕ) (d : Pair) (e : ProofError) → IsClosedFault I g x line d e → Closes I g x d.u d.v → ⊥
closed_fault I g x line d e fault h =
    elim fault [
      | inl feasible ↦ feasible.1 h.fits
      | inr low ↦
          let below : (fixed_cost_of I x +ℤ dual_value d.u d.v) <ℤ g = low.2 in
          let enough : g ≤ℤ (fixed_cost_of I x +ℤ dual_value d.u d.v) = h.enough in
          absurd (omega (arith, ints, below, enough))
    ]

mutual
  pub tree_fault : (t : Node) (I : Problem) (g : ℤ) (p : Place) (earlier : ℕ) (duals : Bool) (line : ℕ) (e : ProofError) → IsPlace p → HasShape (node_at p) earlier duals t → IsTreeFault I g p line t e → Valid I g p t → ⊥
  tree_fault (closed d) I g p earlier duals line e place shape fault h = closed_fault I g (node_at p) line d e fault h
  tree_fault (split s children) I g p earlier duals line e place shape fault h =
      elim fault [
        | inl misfit ↦ misfit.1 h.1
        | inr below ↦ tree_fault_among children I g (node_at p) s 0 (line_after line 1) e (node_placement p place) h.0 (omega (arith, h.2)) shape.2 below.1 h.3
      ]
  tree_fault cut I g (whole x) earlier duals line e place shape fault h = fault
  tree_fault cut I g (child x s c) earlier duals line e place shape fault h =
      let low = fault.1 in
      let pairs : low.duals ≡ h.duals = same_Some low.duals h.duals (sym low.has ∙ h.has) in
      let one : low.value ≡ h.value =
      Reaches-one I x low.duals h.duals (facility_on s.side x s.number c) (location_on s.side x s.number c) low.value h.value place.0 pairs low.reaches h.reaches in
      let less : low.value <ℤ g = low.less in
      let enough : g ≤ℤ h.value = h.enough in
      absurd (omega (arith, ints, one, less, enough))
  tree_fault (mirrored j m) I g (whole x) earlier duals line e place shape fault h = fault
  tree_fault (mirrored j m) I g (child x s c) earlier duals line e place shape fault h = fault.1 h.1

  pub tree_fault_among : (ts : Nodes) (I : Problem) (g : ℤ) (x : Placement) (s : Split) (c line : ℕ) (e : ProofError) → IsPlacement x → IsFreeOn s.side x s.number → c + child_count ts + length x.facilities ≡ x.size → AllHaveShape x s c ts
      → IsTreeFaultAmong I g x s c line ts e → AllValid I g x s c ts → ⊥
  tree_fault_among no_nodes I g x s c line e placement free count shapes fault h = fault
  tree_fault_among (node t rest) I g x s c line e placement free count shapes fault h =
      elim fault [
        | inl first ↦ tree_fault t I g (child x s c) c (has_duals s.duals) line e (placement, free, omega (arith, count)) shapes.0 first h.0
        | inr later ↦ tree_fault_among rest I g x s (c + 1) (line_after line (node_count t)) e placement free (omega (arith, count)) shapes.1 later.1 h.1
      ]

-- a proof that proves its bound has no fault
pub proof_fault : (I : Problem) (C : Claim) (e : ProofError) → IsProof C → IsFault I C e → Proves I C → ⊥
proof_fault I C e proof fault h =
    elim fault [
      | inl misfit ↦ elim misfit [
        | inl size ↦ size.1 h.same_size
        | inr cost ↦ cost.2 h.cost
      ]
      | inr tree ↦ tree_fault C.tree I C.bound (whole C.root) 0 false (tree_line C.root C.cost C.bound) e proof.root.placement proof.tree tree.2 h.tree
    ]
