-- The shape of a tree: what a split may be on, how many children it has, how many duals there are, and which children may be
-- pruned or symmetric.
use Rattle.std.specs.Prelude.{◌≡◌, ℕ, ◌+◌, ◌-◌, ◌<◌, List, length, Option, Some, None, Bool, true, false}
use Rattle.qap_cost.specs.Bijection.{IsPerm}
use Rattle.qap_cost.specs.Placement.{Placement}
use Rattle.gilmore_lawler.specs.Closing.{AreDuals}
use Rattle.qap_proof.specs.Tree.{Pair, Split, Node, closed, split, cut, mirrored, Nodes, no_nodes, node, child_count, IsFreeOn, child_of}

-- how many facilities are free, and how many locations
abbrev pub free_count : Placement → ℕ
free_count x = x.size - length x.facilities

-- if there are duals, they are of this form
abbrev pub MayBeDuals : ℕ → Option Pair → Type 0
MayBeDuals m None = Unit {0}
MayBeDuals m (Some d) = AreDuals m d.u d.v

-- whether there are duals
abbrev pub has_duals : Option Pair → Bool
has_duals None = false
has_duals (Some d) = true

-- a split on a free facility or a free location of the node
pub record IsSplit (x : Placement) (s : Split) : Type 0 where
  pub some : length x.facilities < x.size
  pub free : IsFreeOn s.side x s.number
  pub duals : MayBeDuals (free_count x) s.duals

-- a permutation of n numbers
pub record IsPermOf (n : ℕ) (m : List ℕ) : Type 0 where
  pub permutation : IsPerm m
  pub count : length m ≡ n

abbrev mutual
  -- a tree at the node x, before which its split has this many earlier children, and the split has duals or hasn't: the
  -- root has no earlier children and no duals above it
  pub HasShape : Placement → ℕ → Bool → Node → Type 0
  HasShape x earlier duals (closed d) = AreDuals (free_count x) d.u d.v
  HasShape x earlier duals (split s children) = IsSplit x s × (child_count children ≡ free_count x) × AllHaveShape x s 0 children
  HasShape x earlier duals cut = duals ≡ true
  HasShape x earlier duals (mirrored j m) = (j < earlier) × IsPermOf x.size m

  -- the children of a split of x, from number c on
  pub AllHaveShape : Placement → Split → ℕ → Nodes → Type 0
  AllHaveShape x s c no_nodes = Unit {0}
  AllHaveShape x s c (node t rest) = HasShape (child_of x s c) c (has_duals s.duals) t × AllHaveShape x s (c + 1) rest
