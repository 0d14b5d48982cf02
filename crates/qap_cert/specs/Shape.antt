-- The shape of a tree: which facility a split may have, how many children, and how many duals a bound.
use Rattle.std.specs.Prelude.{◌≡◌, ℕ, ◌+◌, ◌-◌, ◌<◌, List, [], ◌∷◌, ◌++◌, length, ℤ}
use Rattle.qap_cost.specs.Placement.{IsFree}
use Rattle.qap_cost.specs.Range.{AllLimited}
use Rattle.gilmore_lawler.specs.Closing.{AreDuals}
use Rattle.qap_cert.specs.Tree.{Node, split, bound, Nodes, no_nodes, node}
use Rattle.qap_cert.specs.Version.{MayName}
use Rattle.qap_cert.specs.declared.version.Version.{Version}

-- how many nodes are in a row
abbrev pub child_count : Nodes → ℕ
child_count no_nodes = 0
child_count (node t rest) = 1 + child_count rest

-- a dual for each of m rows and each of m columns
pub record AreCounted (m : ℕ) (u v : List ℤ) : Type 0 where
  pub rows : length u ≡ m
  pub columns : length v ≡ m

-- the duals are within -10^24 to 10^24
pub record AreInRange (u v : List ℤ) : Type 0 where
  pub rows : AllLimited u
  pub columns : AllLimited v

-- a tree with these of n facilities placed: a split is on a free facility that its version may name, and has a
-- child for each free location; a bound has a dual for each free facility and each free location
abbrev mutual
  pub HasShape : Version → ℕ → List ℕ → Node → Type 0
  HasShape v n placed (split f children) =
      (length placed < n) × IsFree n placed f × MayName v n placed f × (child_count children ≡ n - length placed)
      × AllHaveShape v n (placed ++ f ∷ []) children
  HasShape v n placed (bound u w) = AreDuals (n - length placed) u w

  -- the same for nodes in a row
  pub AllHaveShape : Version → ℕ → List ℕ → Nodes → Type 0
  AllHaveShape v n placed no_nodes = Unit {0}
  AllHaveShape v n placed (node t rest) = HasShape v n placed t × AllHaveShape v n placed rest
