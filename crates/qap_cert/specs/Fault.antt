-- What prevents a cost, a bound, a permutation and a tree from being a certificate, and a certificate from certifying its
-- bound: the first fault in order of lines, where the nodes of the tree have the lines from `tree_line` on in preorder.
use Rattle.std.specs.Prelude.{◌≡◌, ◌≢◌, ℕ, ◌-◌, ◌<◌, ◌≤◌, ◌⊎◌, ◌++◌, ◌∷◌, [], List, length, ℤ, ◌+ℤ◌, ◌<ℤ◌, unsigned_abs}
use Rattle.qap_cost.specs.Limits.{max_value}
use Rattle.qap_cost.specs.Instance.{Problem}
use Rattle.qap_cost.specs.Matrix.{dual_value}
use Rattle.qap_cost.specs.Objective.{cost_of}
use Rattle.qap_cost.specs.Placement.{Placement, IsFree, root_of, placing, free_locations, fixed_cost_of}
use Rattle.qap_cost.specs.Range.{IsLimited}
use Rattle.qap_lines.specs.Bound.{IsBoundFor}
use Rattle.qap_cert.specs.Certificate.{Claim, tree_line}
use Rattle.qap_lines.specs.Line.{line_after}
use Rattle.qap_cert.specs.Shape.{AreCounted, AreInRange, HasShape, child_count}
use Rattle.qap_cert.specs.Tree.{Node, split, bound, Nodes, no_nodes, node, node_count}
use Rattle.gilmore_lawler.specs.Closing.{Fits}
use Rattle.qap_cert.specs.Valid.{Valid}
use Rattle.qap_cert.specs.declared.error.CertError.{CertError}
use Rattle.qap_cert.specs.declared.error.CertError.TheVariants.{SizeDiffers, CostDiffers, BadLine, SplitTooDeep, FacilityTaken, SplitWidth, DualCount, DualRange, NotFeasible, BoundTooLow}
use Rattle.qap_cert.specs.declared.version.Version.TheVariants.{Second}

-- the first fault of two lists that should be the duals of m rows and m columns
abbrev pub IsDualFault : ℕ → ℕ → List ℤ → List ℤ → CertError → Type 0
IsDualFault m line u v e =
    ((e ≡ DualCount line) × (AreCounted m u v → ⊥)) ⊎ ((e ≡ DualRange line) × AreCounted m u v × (AreInRange u v → ⊥))

-- with these of n facilities placed, none is free, or this one is not
abbrev pub IsFacilityFault : ℕ → List ℕ → ℕ → ℕ → CertError → Type 0
IsFacilityFault n placed line f e =
    ((e ≡ SplitTooDeep line) × (n ≤ length placed)) ⊎ ((e ≡ FacilityTaken line) × (length placed < n) × (IsFree n placed f → ⊥))

-- the first fault of a split on this facility with this many children
abbrev pub IsSplitFault : ℕ → List ℕ → ℕ → ℕ → ℕ → CertError → Type 0
IsSplitFault n placed line f children e =
    IsFacilityFault n placed line f e
    ⊎ ((e ≡ SplitWidth line) × (length placed < n) × IsFree n placed f × (children ≢ n - length placed))

abbrev mutual
  -- the first fault of a tree that is to have the shape of one in which these of n facilities are placed
  pub IsShapeFault : ℕ → List ℕ → ℕ → Node → CertError → Type 0
  IsShapeFault n placed line (split f children) e =
      IsSplitFault n placed line f (child_count children) e
      ⊎ ((length placed < n) × IsFree n placed f × (child_count children ≡ n - length placed)
      × IsShapeFaultAmong n (placed ++ f ∷ []) (line_after line 1) children e)
  IsShapeFault n placed line (bound u v) e = IsDualFault (n - length placed) line u v e

  -- one of the trees has this first fault, and those before it have the shape
  pub IsShapeFaultAmong : ℕ → List ℕ → ℕ → Nodes → CertError → Type 0
  IsShapeFaultAmong n placed line no_nodes e = ⊥
  IsShapeFaultAmong n placed line (node t rest) e =
      IsShapeFault n placed line t e
      ⊎ (HasShape Second n placed t × IsShapeFaultAmong n placed (line_after line (node_count t)) rest e)

-- the first fault of what should be a certificate
abbrev pub IsClaimFault : Claim → CertError → Type 0
IsClaimFault C e =
    ((e ≡ BadLine 3) × (max_value < unsigned_abs C.cost))
    ⊎ (((e ≡ BadLine 5) × IsLimited C.cost × (IsBoundFor C.cost C.bound → ⊥))
    ⊎ (IsLimited C.cost × IsBoundFor C.cost C.bound
    × IsShapeFault (length C.permutation) [] (tree_line C.cost C.bound) C.tree e))

-- the duals do not fit; or they do, and their sum plus the cost of the placed facilities is less than g
abbrev pub IsBoundFault : Problem → ℤ → Placement → ℕ → List ℤ → List ℤ → CertError → Type 0
IsBoundFault I g x line u v e =
    ((e ≡ NotFeasible line) × (Fits I x u v → ⊥))
    ⊎ ((e ≡ BoundTooLow line) × Fits I x u v × ((fixed_cost_of I x +ℤ dual_value u v) <ℤ g))

abbrev mutual
  -- the first bound of the tree, in preorder, that doesn't close its part
  pub IsTreeFault : Problem → ℤ → Placement → ℕ → Node → CertError → Type 0
  IsTreeFault I g x line (split f children) e = IsTreeFaultAmong I g x f (free_locations x) (line_after line 1) children e
  IsTreeFault I g x line (bound u v) e = IsBoundFault I g x line u v e

  -- one of the children, for these locations of the facility, has this first fault, and those before it are valid
  pub IsTreeFaultAmong : Problem → ℤ → Placement → ℕ → List ℕ → ℕ → Nodes → CertError → Type 0
  IsTreeFaultAmong I g x f (k ∷ ks) line (node t rest) e =
      IsTreeFault I g (placing x f k) line t e
      ⊎ (Valid I g (placing x f k) t × IsTreeFaultAmong I g x f ks (line_after line (node_count t)) rest e)
  IsTreeFaultAmong I g x f _ line _ e = ⊥

-- the permutation is not of the instance's size; or it is, and its cost is not the stated one
abbrev pub IsPermMisfit : Problem → List ℕ → ℤ → CertError → Type 0
IsPermMisfit I p c e = ((e ≡ SizeDiffers 2) × (length p ≢ I.size)) ⊎ ((e ≡ CostDiffers 3) × (length p ≡ I.size) × (cost_of I p ≢ c))

-- the first fault of a certificate that does not certify its bound
abbrev pub IsFault : Problem → Claim → CertError → Type 0
IsFault I C e =
    ((e ≡ SizeDiffers 2) × (length C.permutation ≢ I.size))
    ⊎ (((e ≡ CostDiffers 3) × (length C.permutation ≡ I.size) × (cost_of I C.permutation ≢ C.cost))
    ⊎ ((length C.permutation ≡ I.size) × (cost_of I C.permutation ≡ C.cost)
    × IsTreeFault I C.bound (root_of I.size) (tree_line C.cost C.bound) C.tree e))
