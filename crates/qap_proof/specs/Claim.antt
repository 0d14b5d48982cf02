-- Proofs: a node, a permutation with a cost, and a tree that should prove a bound on the permutations that complete the
-- node.
use Rattle.std.specs.Prelude.{◌≡◌, ℕ, ◌+◌, ◌<◌, List, [], ◌∷◌, length, ℤ, ◌≤ℤ◌, false, int_lt, if◌then◌else◌, slice_index}
use Rattle.qap_cost.specs.Bijection.{IsPerm}
use Rattle.qap_cost.specs.Instance.{Problem}
use Rattle.qap_cost.specs.Objective.{Permutes, cost_of}
use Rattle.qap_cost.specs.Placement.{Placement, IsPlacement, Completes}
use Rattle.qap_cost.specs.Range.{IsLimited}
use Rattle.qap_lines.specs.Bound.{IsBoundFor}
use Rattle.qap_proof.specs.Shape.{HasShape}
use Rattle.qap_proof.specs.Tree.{Node, whole}
use Rattle.qap_proof.specs.Valid.{Valid}

-- a node, a cost, a bound, a permutation that should have the cost, and a tree that should prove that none which completes the
-- node costs less than the bound
pub record Claim : Type 0 where
  pub root : Placement
  pub cost : ℤ
  pub bound : ℤ
  pub permutation : List ℕ
  pub tree : Node

-- the claim with these five parts
abbrev pub claim_of : Placement → ℤ → ℤ → List ℕ → Node → Claim
claim_of root cost bound permutation tree = record { root = root; cost = cost; bound = bound; permutation = permutation; tree = tree }

-- a node of size n whose facilities are listed in ascending order
pub record IsRoot (n : ℕ) (x : Placement) : Type 0 where
  pub placement : IsPlacement x
  pub size : x.size ≡ n
  pub ascending : (i j : ℕ) → i < j → j < length x.facilities → slice_index x.facilities i < slice_index x.facilities j

-- a proof's shape: a cost from -10^24 to 10^24, a bound for it, a permutation, a root of its size, and a tree over the root
pub record IsProof (C : Claim) : Type 0 where
  pub cost : IsLimited C.cost
  pub bound : IsBoundFor C.cost C.bound
  pub permutation : IsPerm C.permutation
  pub root : IsRoot (length C.permutation) C.root
  pub tree : HasShape C.root 0 false C.tree

-- how many lines a root has: none if it places no facility, else one
abbrev pub lines_of_root : List ℕ → ℕ
lines_of_root [] = 0
lines_of_root (f ∷ facilities) = 1

-- how many lines a bound has: one if it is below the cost, else none
abbrev pub lines_of_bound : ℤ → ℤ → ℕ
lines_of_bound c g = if int_lt g c then 1 else 0

-- the line of the tree's first node, after four lines, that of a nonempty root, and that of a bound below the cost
abbrev pub tree_line : Placement → ℤ → ℤ → ℕ
tree_line x c g = 5 + lines_of_root x.facilities + lines_of_bound c g

-- the permutation is of the instance's size and has the cost, and the tree proves that none which completes the root costs less
-- than the bound
pub record Proves (I : Problem) (C : Claim) : Type 0 where
  pub same_size : length C.permutation ≡ I.size
  pub cost : cost_of I C.permutation ≡ C.cost
  pub tree : Valid I C.bound (whole C.root) C.tree

-- no permutation that completes the node costs less than g
abbrev pub NoneCompletesForLess : Problem → Placement → ℤ → Type 0
NoneCompletesForLess I x g = (p : List ℕ) → Permutes I p → Completes x p → g ≤ℤ cost_of I p
