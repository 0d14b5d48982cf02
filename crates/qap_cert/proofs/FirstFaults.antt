-- There is one first fault.
use Rattle.std.proofs.Common.{◌≡◌, ℕ, ◌-◌, ◌<◌, ◌++◌, List, [], ◌∷◌, length, sym, ◌∙◌, inl, inr, arith}
use Rattle.std.specs.Prelude.{ℤ}
use Rattle.qap_cost.specs.Instance.{Problem}
use Rattle.qap_cost.specs.Placement.{Placement, IsFree, free_locations, placing, root_of}
use Rattle.qap_cert.specs.Certificate.{Claim, tree_line}
use Rattle.qap_cert.specs.Fault.{IsDualFault, IsFacilityFault, IsSplitFault, IsShapeFault, IsShapeFaultAmong, IsClaimFault, IsBoundFault, IsTreeFault, IsTreeFaultAmong, IsFault}
use Rattle.qap_lines.specs.Line.{line_after}
use Rattle.qap_cert.specs.Shape.{child_count}
use Rattle.qap_cert.specs.Tree.{Node, split, bound, Nodes, no_nodes, node, node_count}
use Rattle.qap_cert.specs.declared.error.CertError.{CertError}
use Rattle.qap_cert.proofs.Faults.{shape_fault, tree_fault}

one_dual_fault : (m line : ℕ) (u v : List ℤ) (e f : CertError) → IsDualFault m line u v e → IsDualFault m line u v f → e ≡ f
one_dual_fault m line u v e f a b =
    elim a [
      | inl x ↦ elim b [
        | inl y ↦ x.0 ∙ sym y.0
        | inr y ↦ absurd (x.1 y.1)
      ]
      | inr x ↦ elim b [
        | inl y ↦ absurd (y.1 x.1)
        | inr y ↦ x.0 ∙ sym y.0
      ]
    ]

one_facility_fault : (n : ℕ) (placed : List ℕ) (line f : ℕ) (d e : CertError) → IsFacilityFault n placed line f d → IsFacilityFault n placed line f e → d ≡ e
one_facility_fault n placed line f d e a b =
    elim a [
      | inl x ↦ elim b [
        | inl y ↦ x.0 ∙ sym y.0
        | inr y ↦ absurd (omega (arith, x.1, y.1))
      ]
      | inr x ↦ elim b [
        | inl y ↦ absurd (omega (arith, x.1, y.1))
        | inr y ↦ x.0 ∙ sym y.0
      ]
    ]

-- a facility that is free is at no fault
free_facility : (n : ℕ) (placed : List ℕ) (line f : ℕ) (e : CertError) → IsFacilityFault n placed line f e → length placed < n → IsFree n placed f → ⊥
free_facility n placed line f e a some free =
    elim a [
      | inl x ↦ absurd (omega (arith, x.1, some))
      | inr x ↦ x.2 free
    ]

one_split_fault : (n : ℕ) (placed : List ℕ) (line f k : ℕ) (d e : CertError) → IsSplitFault n placed line f k d → IsSplitFault n placed line f k e → d ≡ e
one_split_fault n placed line f k d e a b =
    elim a [
      | inl x ↦ elim b [
        | inl y ↦ one_facility_fault n placed line f d e x y
        | inr y ↦ absurd (free_facility n placed line f d x y.1 y.2)
      ]
      | inr x ↦ elim b [
        | inl y ↦ absurd (free_facility n placed line f e y x.1 x.2)
        | inr y ↦ x.0 ∙ sym y.0
      ]
    ]

-- a split with a fault of its own has no other
split_or_child : (n : ℕ) (placed : List ℕ) (line f k : ℕ) (e : CertError) → IsSplitFault n placed line f k e → length placed < n → IsFree n placed f → k ≡ n - length placed → ⊥
split_or_child n placed line f k e a some free count =
    elim a [
      | inl x ↦ free_facility n placed line f e x some free
      | inr x ↦ x.3 count
    ]

mutual
  one_shape_fault : (t : Node) (n : ℕ) (placed : List ℕ) (line : ℕ) (d e : CertError) → IsShapeFault n placed line t d → IsShapeFault n placed line t e → d ≡ e
  one_shape_fault (split f children) n placed line d e a b =
      elim a [
        | inl x ↦ elim b [
          | inl y ↦ one_split_fault n placed line f (child_count children) d e x y
          | inr y ↦ absurd (split_or_child n placed line f (child_count children) d x y.0 y.1 y.2)
        ]
        | inr x ↦ elim b [
          | inl y ↦ absurd (split_or_child n placed line f (child_count children) e y x.0 x.1 x.2)
          | inr y ↦ one_shape_fault_among children n (placed ++ f ∷ []) (line_after line 1) d e x.3 y.3
        ]
      ]
  one_shape_fault (bound u v) n placed line d e a b = one_dual_fault (n - length placed) line u v d e a b

  one_shape_fault_among : (ts : Nodes) (n : ℕ) (placed : List ℕ) (line : ℕ) (d e : CertError) → IsShapeFaultAmong n placed line ts d → IsShapeFaultAmong n placed line ts e → d ≡ e
  one_shape_fault_among no_nodes n placed line d e a b = absurd a
  one_shape_fault_among (node t rest) n placed line d e a b =
      elim a [
        | inl x ↦ elim b [
          | inl y ↦ one_shape_fault t n placed line d e x y
          | inr y ↦ absurd (shape_fault t n placed line d x y.0)
        ]
        | inr x ↦ elim b [
          | inl y ↦ absurd (shape_fault t n placed line e y x.0)
          | inr y ↦ one_shape_fault_among rest n placed (line_after line (node_count t)) d e x.1 y.1
        ]
      ]

-- a claim has one first fault of its own at most
pub one_claim_fault : (C : Claim) (e f : CertError) → IsClaimFault C e → IsClaimFault C f → e ≡ f
one_claim_fault C e f a b =
    elim a [
      | inl x ↦ elim b [
        | inl y ↦ x.0 ∙ sym y.0
        | inr other ↦ elim other [
          | inl y ↦ absurd (omega (arith, x.1, y.1))
          | inr y ↦ absurd (omega (arith, x.1, y.0))
        ]
      ]
      | inr here ↦ elim here [
        | inl x ↦ elim b [
          | inl y ↦ absurd (omega (arith, x.1, y.1))
          | inr other ↦ elim other [
            | inl y ↦ x.0 ∙ sym y.0
            | inr y ↦ absurd (x.2 y.1)
          ]
        ]
        | inr x ↦ elim b [
          | inl y ↦ absurd (omega (arith, x.0, y.1))
          | inr other ↦ elim other [
            | inl y ↦ absurd (y.2 x.1)
            | inr y ↦ one_shape_fault C.tree (length C.permutation) [] (tree_line C.cost C.bound) e f x.2 y.2
          ]
        ]
      ]
    ]

one_bound_fault : (I : Problem) (g : ℤ) (x : Placement) (line : ℕ) (u v : List ℤ) (e f : CertError) → IsBoundFault I g x line u v e → IsBoundFault I g x line u v f → e ≡ f
one_bound_fault I g x line u v e f a b =
    elim a [
      | inl p ↦ elim b [
        | inl y ↦ p.0 ∙ sym y.0
        | inr y ↦ absurd (p.1 y.1)
      ]
      | inr p ↦ elim b [
        | inl y ↦ absurd (y.1 p.1)
        | inr y ↦ p.0 ∙ sym y.0
      ]
    ]

mutual
  one_tree_fault : (t : Node) (I : Problem) (g : ℤ) (x : Placement) (line : ℕ) (e f : CertError) → IsTreeFault I g x line t e → IsTreeFault I g x line t f → e ≡ f
  one_tree_fault (split h children) I g x line e f a b =
      one_tree_fault_among children I g x h (free_locations x) (line_after line 1) e f a b
  one_tree_fault (bound u v) I g x line e f a b = one_bound_fault I g x line u v e f a b

  one_tree_fault_among : (ts : Nodes) (I : Problem) (g : ℤ) (x : Placement) (h : ℕ) (ks : List ℕ) (line : ℕ) (e f : CertError) → IsTreeFaultAmong I g x h ks line ts e → IsTreeFaultAmong I g x h ks line ts f → e ≡ f
  one_tree_fault_among no_nodes I g x h [] line e f a b = absurd a
  one_tree_fault_among no_nodes I g x h (k ∷ ks) line e f a b = absurd a
  one_tree_fault_among (node t rest) I g x h [] line e f a b = absurd a
  one_tree_fault_among (node t rest) I g x h (k ∷ ks) line e f a b =
      elim a [
        | inl p ↦ elim b [
          | inl y ↦ one_tree_fault t I g (placing x h k) line e f p y
          | inr y ↦ absurd (tree_fault t I g (placing x h k) line e p y.0)
        ]
        | inr p ↦ elim b [
          | inl y ↦ absurd (tree_fault t I g (placing x h k) line f y p.0)
          | inr y ↦ one_tree_fault_among rest I g x h ks (line_after line (node_count t)) e f p.1 y.1
        ]
      ]

-- a claim has one first fault for an instance at most
pub one_fault : (I : Problem) (C : Claim) (e f : CertError) → IsFault I C e → IsFault I C f → e ≡ f
one_fault I C e f a b =
    elim a [
      | inl x ↦ elim b [
        | inl y ↦ x.0 ∙ sym y.0
        | inr later ↦ elim later [
          | inl y ↦ absurd (x.1 y.1)
          | inr y ↦ absurd (x.1 y.0)
        ]
      ]
      | inr other ↦ elim other [
        | inl x ↦ elim b [
          | inl y ↦ absurd (y.1 x.1)
          | inr later ↦ elim later [
            | inl y ↦ x.0 ∙ sym y.0
            | inr y ↦ absurd (x.2 y.1)
          ]
        ]
        | inr x ↦ elim b [
          | inl y ↦ absurd (y.1 x.0)
          | inr later ↦ elim later [
            | inl y ↦ absurd (y.2 x.1)
            | inr y ↦ one_tree_fault C.tree I C.bound (root_of I.size) (tree_line C.cost C.bound) e f x.2 y.2
          ]
        ]
      ]
    ]
