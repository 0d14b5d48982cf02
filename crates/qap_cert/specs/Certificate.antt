-- Certificates: a permutation with a cost, and a tree that should prove a bound on all permutations' costs.
use Rattle.std.specs.Prelude.{◌≡◌, ℕ, List, [], length, ℤ, int_lt, if◌then◌else◌}
use Rattle.qap_cost.specs.Bijection.{IsPerm}
use Rattle.qap_cost.specs.Instance.{Problem}
use Rattle.qap_cost.specs.Objective.{cost_of}
use Rattle.qap_cost.specs.Placement.{root_of}
use Rattle.qap_cost.specs.Range.{IsLimited}
use Rattle.qap_lines.specs.Bound.{IsBoundFor}
use Rattle.qap_cert.specs.Shape.{HasShape}
use Rattle.qap_cert.specs.Tree.{Node}
use Rattle.qap_cert.specs.Valid.{Valid}
use Rattle.qap_cert.specs.declared.version.Version.TheVariants.{Second}

-- a cost, a bound, a permutation that should have the cost, and a tree that should prove that none costs less than the bound
pub record Claim : Type 0 where
  pub cost : ℤ
  pub bound : ℤ
  pub permutation : List ℕ
  pub tree : Node

-- the claim of this cost and bound with this permutation and this tree
abbrev pub claim_of : ℤ → ℤ → List ℕ → Node → Claim
claim_of cost bound permutation tree = record { cost = cost; bound = bound; permutation = permutation; tree = tree }

-- a certificate's shape: a cost from -10^24 to 10^24, a bound for it, a permutation, and a tree of its size
pub record IsCertificate (C : Claim) : Type 0 where
  pub cost : IsLimited C.cost
  pub bound : IsBoundFor C.cost C.bound
  pub permutation : IsPerm C.permutation
  pub tree : HasShape Second (length C.permutation) [] C.tree

-- the line of the tree's first node: it follows the bound's line, which is present if the bound is below the cost
abbrev pub tree_line : ℤ → ℤ → ℕ
tree_line c g = if int_lt g c then 6 else 5

-- the permutation is of the instance's size and has the cost, and the tree proves that none costs less than the bound
pub record Certifies (I : Problem) (C : Claim) : Type 0 where
  pub same_size : length C.permutation ≡ I.size
  pub cost : cost_of I C.permutation ≡ C.cost
  pub tree : Valid I C.bound (root_of I.size) C.tree
