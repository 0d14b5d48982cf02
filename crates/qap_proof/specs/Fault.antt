-- What prevents a node, a cost, a bound, a permutation and a tree from being a proof, and a proof from proving its bound: the first
-- fault in order of lines, where the nodes of the tree have the lines from `tree_line` on in preorder.
use Rattle.std.specs.Prelude.{◌≡◌, ◌≢◌, ℕ, ◌+◌, ◌<◌, ◌≤◌, ◌⊎◌, List, length, ℤ, ◌+ℤ◌, ◌<ℤ◌, Option, Some, None, Bool, false}
use Rattle.qap_cost.specs.Instance.{Problem}
use Rattle.qap_cost.specs.Matrix.{dual_value}
use Rattle.qap_cost.specs.Objective.{cost_of}
use Rattle.qap_cost.specs.Placement.{Placement, fixed_cost_of}
use Rattle.qap_cost.specs.Range.{AllLimited, IsLimited}
use Rattle.qap_lines.specs.Line.{line_after}
use Rattle.qap_lines.specs.Bound.{IsBoundFor}
use Rattle.qap_proof.specs.Claim.{Claim, IsRoot, tree_line}
use Rattle.qap_proof.specs.Shape.{IsPermOf, IsSplit, HasShape, free_count, has_duals}
use Rattle.qap_proof.specs.Tree.{Pair, Split, Node, closed, split, cut, mirrored, Nodes, no_nodes, node, node_count, child_count, IsFreeOn, child_of, facility_on, location_on, Place, whole, child, node_at}
use Rattle.gilmore_lawler.specs.Closing.{Fits}
use Rattle.qap_proof.specs.Valid.{Reaches, MayFit, TakesOn, Valid}
use Rattle.qap_proof.specs.declared.side.Side.{Side}
use Rattle.qap_proof.specs.declared.side.Side.TheVariants.{Facility, Location}
use Rattle.qap_proof.specs.declared.error.ProofError.{ProofError}
use Rattle.qap_proof.specs.declared.error.ProofError.TheVariants.{SizeDiffers, CostDiffers, BadLine, RootBad, PermBad, SplitTooDeep, FacilityTaken, LocationTaken, SplitWidth, DualCount, DualRange, CutWithoutDuals, NoEarlierChild, NotFeasible, BoundTooLow, CutTooLow, NotAnImage}

-- two lists that should be the duals of m rows and m columns have other lengths; or the lengths are right, and some number is out of range
abbrev pub IsPairFault : ℕ → ℕ → Pair → ProofError → Type 0
IsPairFault m line d e =
    ((e ≡ DualCount line) × (((length d.u ≡ m) × (length d.v ≡ m)) → ⊥))
    ⊎ ((e ≡ DualRange line) × (length d.u ≡ m) × (length d.v ≡ m) × ((AllLimited d.u × AllLimited d.v) → ⊥))

-- likewise for the duals of a split, which may have none: then there is no fault
abbrev pub MayBePairFault : ℕ → ℕ → Option Pair → ProofError → Type 0
MayBePairFault m line None e = ⊥
MayBePairFault m line (Some d) e = IsPairFault m line d e

-- the fault of a facility or of a location that is not free
abbrev pub taken : Side → ℕ → ProofError
taken Facility line = FacilityTaken line
taken Location line = LocationTaken line

-- nothing is free; or something is, but not this one
abbrev pub IsNumberFault : Placement → ℕ → Side → ℕ → ProofError → Type 0
IsNumberFault x line side i e =
    ((e ≡ SplitTooDeep line) × (x.size ≤ length x.facilities))
    ⊎ ((e ≡ taken side line) × (length x.facilities < x.size) × (IsFreeOn side x i → ⊥))

-- the first fault of a split with this many children
abbrev pub IsSplitFault : Placement → ℕ → Split → ℕ → ProofError → Type 0
IsSplitFault x line s children e =
    IsNumberFault x line s.side s.number e
    ⊎ (((length x.facilities < x.size) × IsFreeOn s.side x s.number × MayBePairFault (free_count x) line s.duals e)
    ⊎ ((e ≡ SplitWidth line) × IsSplit x s × (children ≢ free_count x)))

abbrev mutual
  -- the first fault of a tree that is to have the shape of one at x, with this many earlier children and duals above it
  -- or none
  pub IsShapeFault : Placement → ℕ → Bool → ℕ → Node → ProofError → Type 0
  IsShapeFault x earlier duals line (closed d) e = IsPairFault (free_count x) line d e
  IsShapeFault x earlier duals line (split s children) e =
      IsSplitFault x line s (child_count children) e
      ⊎ (IsSplit x s × (child_count children ≡ free_count x) × IsShapeFaultAmong x s 0 (line_after line 1) children e)
  IsShapeFault x earlier duals line cut e = (e ≡ CutWithoutDuals line) × (duals ≡ false)
  IsShapeFault x earlier duals line (mirrored j m) e =
      ((e ≡ NoEarlierChild line) × (earlier ≤ j)) ⊎ ((e ≡ PermBad line) × (j < earlier) × (IsPermOf x.size m → ⊥))

  -- one of the children, from number c on, has this first fault, and those before it have the shape
  pub IsShapeFaultAmong : Placement → Split → ℕ → ℕ → Nodes → ProofError → Type 0
  IsShapeFaultAmong x s c line no_nodes e = ⊥
  IsShapeFaultAmong x s c line (node t rest) e =
      IsShapeFault (child_of x s c) c (has_duals s.duals) line t e
      ⊎ (HasShape (child_of x s c) c (has_duals s.duals) t × IsShapeFaultAmong x s (c + 1) (line_after line (node_count t)) rest e)

-- the first fault of what should be a proof
abbrev pub IsClaimFault : Claim → ProofError → Type 0
IsClaimFault C e =
    ((e ≡ BadLine 3) × (IsLimited C.cost → ⊥))
    ⊎ (((e ≡ RootBad 5) × IsLimited C.cost × (IsRoot (length C.permutation) C.root → ⊥))
    ⊎ (((e ≡ BadLine (tree_line C.root C.cost C.cost)) × IsLimited C.cost × IsRoot (length C.permutation) C.root × (IsBoundFor C.cost C.bound → ⊥))
    ⊎ (IsLimited C.cost × IsRoot (length C.permutation) C.root × IsBoundFor C.cost C.bound
    × IsShapeFault C.root 0 false (tree_line C.root C.cost C.bound) C.tree e)))

-- the duals do not fit; or they do, and their sum plus the cost of the placed facilities is less than g
abbrev pub IsClosedFault : Problem → ℤ → Placement → ℕ → Pair → ProofError → Type 0
IsClosedFault I g x line d e =
    ((e ≡ NotFeasible line) × (Fits I x d.u d.v → ⊥))
    ⊎ ((e ≡ BoundTooLow line) × Fits I x d.u d.v × ((fixed_cost_of I x +ℤ dual_value d.u d.v) <ℤ g))

-- the duals of the split yield less than g for its child number c
pub record IsCutTooLow (I : Problem) (g : ℤ) (x : Placement) (s : Split) (c : ℕ) : Type 0 where
  pub duals : Pair
  pub has : s.duals ≡ Some duals
  pub value : ℤ
  pub reaches : Reaches I x duals (facility_on s.side x s.number c) (location_on s.side x s.number c) value
  pub less : value <ℤ g

abbrev mutual
  -- the first node of the tree, in preorder, that doesn't show what it is to show
  pub IsTreeFault : Problem → ℤ → Place → ℕ → Node → ProofError → Type 0
  IsTreeFault I g p line (closed d) e = IsClosedFault I g (node_at p) line d e
  IsTreeFault I g p line (split s children) e =
      ((e ≡ NotFeasible line) × (MayFit I (node_at p) s.duals → ⊥))
      ⊎ (MayFit I (node_at p) s.duals × IsTreeFaultAmong I g (node_at p) s 0 (line_after line 1) children e)
  IsTreeFault I g (whole x) line cut e = ⊥
  IsTreeFault I g (child x s c) line cut e = (e ≡ CutTooLow line) × IsCutTooLow I g x s c
  IsTreeFault I g (whole x) line (mirrored j m) e = ⊥
  IsTreeFault I g (child x s c) line (mirrored j m) e = (e ≡ NotAnImage line) × (TakesOn s.side I x j c m → ⊥)

  -- one of the children, from number c on, has this first fault, and those before it are valid
  pub IsTreeFaultAmong : Problem → ℤ → Placement → Split → ℕ → ℕ → Nodes → ProofError → Type 0
  IsTreeFaultAmong I g x s c line no_nodes e = ⊥
  IsTreeFaultAmong I g x s c line (node t rest) e =
      IsTreeFault I g (child x s c) line t e
      ⊎ (Valid I g (child x s c) t × IsTreeFaultAmong I g x s (c + 1) (line_after line (node_count t)) rest e)

-- the permutation is not of the instance's size; or it is, and its cost is not the stated one
abbrev pub IsPermMisfit : Problem → List ℕ → ℤ → ProofError → Type 0
IsPermMisfit I p c e = ((e ≡ SizeDiffers 2) × (length p ≢ I.size)) ⊎ ((e ≡ CostDiffers 3) × (length p ≡ I.size) × (cost_of I p ≢ c))

-- the first fault of a proof that does not prove its bound
abbrev pub IsFault : Problem → Claim → ProofError → Type 0
IsFault I C e =
    IsPermMisfit I C.permutation C.cost e
    ⊎ ((length C.permutation ≡ I.size) × (cost_of I C.permutation ≡ C.cost)
    × IsTreeFault I C.bound (whole C.root) (tree_line C.root C.cost C.bound) C.tree e)
