-- The bounds of the leaves of a tree.
use Rattle.std.specs.Prelude.{ℕ, List, [], ◌∷◌, ◌++◌, ℤ, ◌+ℤ◌, ◌≤ℤ◌, All, Contains}
use Rattle.qap_cost.specs.Instance.{Problem}
use Rattle.qap_cost.specs.Matrix.{dual_value}
use Rattle.qap_cost.specs.Placement.{Placement, fixed_cost_of, free_locations, placing, root_of}
use Rattle.qap_cert.specs.Tree.{Node, split, bound, Nodes, node}

abbrev mutual
  -- the bound of each leaf of the tree at x: the cost of the placed facilities among themselves, and the sum of its duals
  pub shown : Problem → Placement → Node → List ℤ
  shown I x (bound u v) = (fixed_cost_of I x +ℤ dual_value u v) ∷ []
  shown I x (split f children) = shown_by_all I x f (free_locations x) children

  -- the children, one for each of these locations of the facility
  pub shown_by_all : Problem → Placement → ℕ → List ℕ → Nodes → List ℤ
  shown_by_all I x f (k ∷ ks) (node t rest) = shown I (placing x f k) t ++ shown_by_all I x f ks rest
  shown_by_all I x f _ _ = []

-- g is one of the numbers, and none of them is smaller
pub record IsLeastOf (xs : List ℤ) (g : ℤ) : Type 0 where
  pub one : Contains xs g
  pub least : All (λ x. g ≤ℤ x) xs

-- the minimum of the cost c and of the bounds of the leaves of the tree
abbrev pub IsBoundOf : Problem → ℤ → Node → ℤ → Type 0
IsBoundOf I c t g = IsLeastOf (c ∷ shown I (root_of I.size) t) g
