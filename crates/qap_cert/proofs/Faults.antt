-- What has a fault isn't a certificate, or doesn't certify its bound.
use Rattle.std.proofs.Common.{ℕ, ◌-◌, ◌++◌, List, [], ◌∷◌, length, inl, inr, arith}
use Rattle.std.specs.Prelude.{ℤ, ◌+ℤ◌, ◌<ℤ◌, ◌≤ℤ◌}
use Rattle.std.proofs.lemmas.Int.{ints}
use Rattle.qap_cost.specs.Instance.{Problem}
use Rattle.qap_cost.specs.Matrix.{dual_value}
use Rattle.qap_cost.specs.Placement.{Placement, free_locations, placing, root_of, fixed_cost_of}
use Rattle.qap_cert.specs.Certificate.{Claim, IsCertificate, Certifies, tree_line}
use Rattle.qap_cert.specs.Fault.{IsDualFault, IsShapeFault, IsShapeFaultAmong, IsClaimFault, IsBoundFault, IsTreeFault, IsTreeFaultAmong, IsFault}
use Rattle.qap_lines.specs.Line.{line_after}
use Rattle.gilmore_lawler.specs.Closing.{AreDuals}
use Rattle.qap_cert.specs.Shape.{HasShape, AllHaveShape}
use Rattle.qap_cert.specs.Tree.{Node, split, bound, Nodes, no_nodes, node, node_count}
use Rattle.qap_cert.specs.Valid.{ClosesPart, Valid, AllValid}
use Rattle.qap_cert.specs.declared.error.CertError.{CertError}
use Rattle.qap_cert.specs.declared.version.Version.TheVariants.{Second}

dual_fault : (m line : ℕ) (u v : List ℤ) (e : CertError) → IsDualFault m line u v e → AreDuals m u v → ⊥
dual_fault m line u v e fault h =
    elim fault [
      | inl count ↦ count.1 (record { rows = h.rows; columns = h.columns })
      | inr range ↦ range.2 (record { rows = h.u_range; columns = h.v_range })
    ]

mutual
  -- a tree with a fault of shape doesn't have the shape
  pub shape_fault : (t : Node) (n : ℕ) (placed : List ℕ) (line : ℕ) (e : CertError) → IsShapeFault n placed line t e → HasShape Second n placed t → ⊥
  shape_fault (split f children) n placed line e fault h =
      elim fault [
        | inl own ↦ elim own [
          | inl facility ↦ elim facility [
            | inl deep ↦ absurd (omega (arith, deep.1, h.0))
            | inr taken ↦ taken.2 h.1
          ]
          | inr width ↦ width.3 h.3
        ]
        | inr below ↦ shape_fault_among children n (placed ++ f ∷ []) (line_after line 1) e below.3 h.4
      ]
  shape_fault (bound u v) n placed line e fault h = dual_fault (n - length placed) line u v e fault h

  shape_fault_among : (ts : Nodes) (n : ℕ) (placed : List ℕ) (line : ℕ) (e : CertError) → IsShapeFaultAmong n placed line ts e → AllHaveShape Second n placed ts → ⊥
  shape_fault_among no_nodes n placed line e fault h = fault
  shape_fault_among (node t rest) n placed line e fault h =
      elim fault [
        | inl first ↦ shape_fault t n placed line e first h.0
        | inr later ↦ shape_fault_among rest n placed (line_after line (node_count t)) e later.1 h.1
      ]

-- a claim that has a fault of its own isn't a certificate
pub claim_fault : (C : Claim) (e : CertError) → IsClaimFault C e → IsCertificate C → ⊥
claim_fault C e fault h =
    elim fault [
      | inl cost ↦ absurd (omega (arith, cost.1, h.cost))
      | inr other ↦ elim other [
        | inl low ↦ low.2 h.bound
        | inr tree ↦ shape_fault C.tree (length C.permutation) [] (tree_line C.cost C.bound) e tree.2 h.tree
      ]
    ]

bound_fault : (I : Problem) (g : ℤ) (x : Placement) (line : ℕ) (u v : List ℤ) (e : CertError) → IsBoundFault I g x line u v e → ClosesPart I g x u v → ⊥
bound_fault I g x line u v e fault h =
    elim fault [
      | inl feasible ↦ feasible.1 h.closes.fits
      | inr low ↦
          let below : (fixed_cost_of I x +ℤ dual_value u v) <ℤ g = low.2 in
          let enough : g ≤ℤ (fixed_cost_of I x +ℤ dual_value u v) = h.closes.enough in
          absurd (omega (arith, ints, below, enough))
    ]

mutual
  -- a tree with a fault isn't valid
  pub tree_fault : (t : Node) (I : Problem) (g : ℤ) (x : Placement) (line : ℕ) (e : CertError) → IsTreeFault I g x line t e → Valid I g x t → ⊥
  tree_fault (split f children) I g x line e fault h =
      tree_fault_among children I g x f (free_locations x) (line_after line 1) e fault h.2
  tree_fault (bound u v) I g x line e fault h = bound_fault I g x line u v e fault h

  tree_fault_among : (ts : Nodes) (I : Problem) (g : ℤ) (x : Placement) (f : ℕ) (ks : List ℕ) (line : ℕ) (e : CertError) → IsTreeFaultAmong I g x f ks line ts e → AllValid I g x f ks ts → ⊥
  tree_fault_among no_nodes I g x f [] line e fault h = fault
  tree_fault_among no_nodes I g x f (k ∷ ks) line e fault h = fault
  tree_fault_among (node t rest) I g x f [] line e fault h = fault
  tree_fault_among (node t rest) I g x f (k ∷ ks) line e fault h =
      elim fault [
        | inl first ↦ tree_fault t I g (placing x f k) line e first h.0
        | inr later ↦ tree_fault_among rest I g x f ks (line_after line (node_count t)) e later.1 h.1
      ]

-- a claim that has a fault for an instance doesn't certify its bound
pub certificate_fault : (I : Problem) (C : Claim) (e : CertError) → IsFault I C e → Certifies I C → ⊥
certificate_fault I C e fault h =
    elim fault [
      | inl size ↦ size.1 h.same_size
      | inr other ↦ elim other [
        | inl cost ↦ cost.2 h.cost
        | inr tree ↦ tree_fault C.tree I C.bound (root_of I.size) (tree_line C.cost C.bound) e tree.2 h.tree
      ]
    ]
