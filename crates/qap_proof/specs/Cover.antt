-- Proofs of parts added to the proof of a whole, and what they establish together.
use Rattle.std.specs.Prelude.{◌≡◌, ◌⊎◌, ℕ, ◌+◌, ◌<◌, ◌++◌, List, [], ◌∷◌, length, ℤ, ◌+ℤ◌, ◌<ℤ◌, ◌≤ℤ◌, neg_ℤ, pos, All, Contains, map, slice_index, slice_index_or, Some}
use Rattle.std.specs.Int.{int_min}
use Rattle.qap_cost.specs.Instance.{Problem}
use Rattle.qap_cost.specs.Limits.{max_value}
use Rattle.qap_cost.specs.Matrix.{dual_value}
use Rattle.qap_cost.specs.Objective.{IsLeast, NoneCostsLess, Permutes, cost_of}
use Rattle.qap_cost.specs.Placement.{Placement, IsPlacement, StandsAt, fixed_cost_of}
use Rattle.qap_cost.specs.Range.{IsLimited}
use Rattle.qap_proof.specs.Acceptance.{IsVerdictOf}
use Rattle.qap_proof.specs.Claim.{Claim, claim_of, NoneCompletesForLess, Proves}
use Rattle.qap_proof.specs.Text.{IsProofText}
use Rattle.qap_proof.specs.Tree.{Pair, Split, Node, closed, split, cut, mirrored, Nodes, no_nodes, node, facility_on, location_on, child_of, Place, whole, child, node_at}
use Rattle.qap_proof.specs.Valid.{Reaches}
use Rattle.qap_proof.specs.declared.acceptance.Verdict.{Verdict}
use Rattle.qap_proof.specs.declared.acceptance.Verdict.TheVariants.{Optimal, Gap, Part}
use Rattle.qap_proof.specs.declared.leaf.Leaf.{Leaf}

-- the leaf of this node, with this value
abbrev pub leaf : Placement → ℤ → Leaf
leaf x z = record { node = x; value = z }

-- the value of child number c of a split under its duals
pub record IsCutValue (I : Problem) (x : Placement) (s : Split) (c : ℕ) (z : ℤ) : Type 0 where
  pub duals : Pair
  pub has : s.duals ≡ Some duals
  pub reaches : Reaches I x duals (facility_on s.side x s.number c) (location_on s.side x s.number c) z

abbrev mutual
  -- these are the leaves of the tree at this place, in preorder: closed nodes with what their duals yield, and children
  -- that are cut with what those of their split do; a mirrored child has none, since it shows what an earlier one shows
  pub AreLeaves : Problem → Place → Node → List Leaf → Type 0
  AreLeaves I p (closed d) ls = ls ≡ leaf (node_at p) (fixed_cost_of I (node_at p) +ℤ dual_value d.u d.v) ∷ []
  AreLeaves I p (split s children) ls = AreAllLeaves I (node_at p) s 0 children ls
  AreLeaves I (whole x) cut ls = ⊥
  AreLeaves I (child x s c) cut ls = (z : ℤ) × IsCutValue I x s c z × (ls ≡ leaf (child_of x s c) z ∷ [])
  AreLeaves I p (mirrored j m) ls = ls ≡ []

  -- those of the children of a split of x, from number c on
  pub AreAllLeaves : Problem → Placement → Split → ℕ → Nodes → List Leaf → Type 0
  AreAllLeaves I x s c no_nodes ls = ls ≡ []
  AreAllLeaves I x s c (node t rest) ls =
      (here others : List Leaf) × (ls ≡ here ++ others) × AreLeaves I (child x s c) t here × AreAllLeaves I x s (c + 1) rest others

-- x places each facility that y places, at the same location
abbrev pub AreAmong : Placement → Placement → Type 0
AreAmong y x = (t : ℕ) → t < length y.facilities → StandsAt x (slice_index y.facilities t) (slice_index y.places t)

-- the value of a leaf given a part with this root and this bound: the bound, if the leaf's value is smaller and all placements of the root
-- are among its own, so that whatever completes it completes the part
abbrev pub IsRaisedValue : Placement → ℤ → Leaf → ℤ → Type 0
IsRaisedValue root bound l z =
    ((l.value <ℤ bound) × AreAmong root l.node × (z ≡ bound)) ⊎ ((l.value <ℤ bound → AreAmong root l.node → ⊥) × (z ≡ l.value))

-- the new leaf is that of the old one's node, with its value given the part
abbrev pub IsRaised : Placement → ℤ → Leaf → Leaf → Type 0
IsRaised root bound old new = (new.node ≡ old.node) × IsRaisedValue root bound old new.value

-- likewise for each leaf of a list, in order
abbrev pub AreRaised : Placement → ℤ → List Leaf → List Leaf → Type 0
AreRaised root bound old new =
    (length new ≡ length old)
    × ((i : ℕ) (d : Leaf) → i < length old → IsRaised root bound (slice_index_or old i d) (slice_index_or new i d))

-- an instance, the root of a tree, the least cost of the known permutations, and the tree's leaves
pub record CoverValue : Type 0 where
  pub instance : Problem
  pub root : Placement
  pub cost : ℤ
  pub leaves : List Leaf

-- the cover with these four parts
abbrev pub cover_of : Problem → Placement → ℤ → List Leaf → CoverValue
cover_of I x c ls = record { instance = I; root = x; cost = c; leaves = ls }

-- the text is the proof of the whole, without parts
pub record IsOpened (I : Problem) (text : List ℕ) (c : CoverValue) : Type 0 where
  pub proof : Claim
  pub is_text : IsProofText text proof
  pub proved : Proves I proof
  pub instance : c.instance ≡ I
  pub root : c.root ≡ proof.root
  pub cost : c.cost ≡ proof.cost
  pub leaves : AreLeaves I (whole proof.root) proof.tree c.leaves

-- the proof of a part, which is the text, has been added
pub record HasPart (text : List ℕ) (old new : CoverValue) : Type 0 where
  pub proof : Claim
  pub is_text : IsProofText text proof
  pub proved : Proves old.instance proof
  pub instance : new.instance ≡ old.instance
  pub root : new.root ≡ old.root
  pub cost : new.cost ≡ int_min old.cost proof.cost
  pub leaves : AreRaised proof.root proof.bound old.leaves new.leaves

-- what a proof over root x, of cost c and bound g, establishes in any format: some permutation costs c, and none that
-- completes the root costs less than g
pub record Establishes (I : Problem) (x : Placement) (c g : ℤ) : Type 0 where
  pub same_size : x.size ≡ I.size
  pub limited : IsLimited c
  pub reached : (p : List ℕ) × Permutes I p × (cost_of I p ≡ c)
  pub bounded : NoneCompletesForLess I x g

-- what such a proof establishes has been added
pub record IsAdmitted (x : Placement) (c g : ℤ) (old new : CoverValue) : Type 0 where
  pub instance : new.instance ≡ old.instance
  pub root : new.root ≡ old.root
  pub cost : new.cost ≡ int_min old.cost c
  pub leaves : AreRaised x g old.leaves new.leaves

-- the leaf's value is at least g
abbrev pub IsAtLeast : ℤ → Leaf → Type 0
IsAtLeast g l = g ≤ℤ l.value

-- no permutation that completes the leaf's node costs less than g
abbrev pub IsBounded : Problem → ℤ → Leaf → Type 0
IsBounded I g l = NoneCompletesForLess I l.node g

-- the leaf's value is valid: no permutation that completes its node costs less
abbrev pub IsShown : Problem → Leaf → Type 0
IsShown I l = IsBounded I l.value l

-- some permutation has the cost; each leaf's value is valid; and whatever completes the root costs at least the cost, or completes a
-- leaf, or has a symmetric image with the same cost that does, so that a bound for all leaves, up to the cost, is one for the root
pub record IsCovering (c : CoverValue) : Type 0 where
  pub reached : (p : List ℕ) × Permutes c.instance p × (cost_of c.instance p ≡ c.cost)
  pub limited : IsLimited c.cost
  pub least : All (IsAtLeast (neg_ℤ (pos max_value))) c.leaves
  pub shown : All (IsShown c.instance) c.leaves
  pub covers : (g : ℤ) → g ≤ℤ c.cost → All (IsBounded c.instance g) c.leaves → NoneCompletesForLess c.instance c.root g
  pub placement : IsPlacement c.root
  pub same_size : c.root.size ≡ c.instance.size

-- one of the numbers, and none is below it
pub record IsLeastOf (xs : List ℤ) (g : ℤ) : Type 0 where
  pub one : Contains xs g
  pub least : All (λ x. g ≤ℤ x) xs

-- the bound is the minimum of the cost and of the leaves' values; the verdict is formed as for a proof
pub record IsVerdictOn (c : CoverValue) (v : Verdict) : Type 0 where
  pub bound : ℤ
  pub least : IsLeastOf (c.cost ∷ map (λ l. l.value) c.leaves) bound
  pub says : (p : List ℕ) (t : Node) → IsVerdictOf (claim_of c.root c.cost bound p t) v

-- the verdict is true
abbrev pub IsSoOf : Problem → Placement → Verdict → Type 0
IsSoOf I x (Optimal c) = IsLeast I c
IsSoOf I x (Gap g c) = ((p : List ℕ) × Permutes I p × (cost_of I p ≡ c)) × NoneCostsLess I g × (g <ℤ c)
IsSoOf I x (Part g) = NoneCompletesForLess I x g
