-- The shape of a tree: what a split may be on, how many children it has, how many duals there are, and which nodes must have their own
-- pair duals.
use Rattle.std.specs.Prelude.{◌≡◌, ℕ, ◌+◌, ◌-◌, ◌*◌, ◌^◌, ◌<◌, ◌≤◌, Option, Some, None, List, length, ℤ, Bool, true, All}
use Rattle.qap_cost.specs.Placement.{Placement}
use Rattle.qap_cost.specs.Range.{AllLimited}
use Rattle.qap_proof.specs.Cell.{IsPlaceOf, own_on}
use Rattle.qap_proof.specs.Shape.{IsPermOf, free_count}
use Rattle.qap_proof.specs.declared.side.Side.{Side}
use Rattle.proof_tree.specs.Tree.{PairRows, NodeDuals, Image, by_one, by_both, Tree, leaf, split, Children, no_children, closed, image, grown, child_count, child_on}

-- this many numbers from -10^24 to 10^24
pub record AreLimited (m : ℕ) (zs : List ℤ) : Type 0 where
  pub count : length zs ≡ m
  pub limited : AllLimited zs

-- pair duals with m facilities free: m * m rows of 2 (m - 1) numbers, and a scale from 1 to 2^20
pub record ArePairRows (m : ℕ) (P : PairRows) : Type 0 where
  pub positive : 0 < P.scale
  pub scale : P.scale ≤ 2 ^ 20
  pub count : length P.rows ≡ m * m
  pub each : All (AreLimited (2 * (m - 1))) P.rows

-- a node that inherits none must have its own
abbrev pub MayBePairRows : Bool → ℕ → Option PairRows → Type 0
MayBePairRows above m None = above ≡ true
MayBePairRows above m (Some P) = ArePairRows m P

-- what a node states with m facilities free: pair duals or not, and a number for each free facility
pub record AreNodeDuals (above : Bool) (m : ℕ) (d : NodeDuals) : Type 0 where
  pub own : MayBePairRows above m d.own
  pub u : AreLimited m d.u

-- the symmetric image of one of this many earlier children under permutations of n numbers
abbrev pub IsImageOf : ℕ → ℕ → Image → Type 0
IsImageOf n earlier (by_one j m) = (j < earlier) × IsPermOf n m
IsImageOf n earlier (by_both j s t) = (j < earlier) × IsPermOf n s × IsPermOf n t

abbrev mutual
  -- a tree at the node y, where pair duals come from above or not
  pub HasShape : Placement → Bool → Tree → Type 0
  HasShape y above (leaf d) = AreNodeDuals above (free_count y) d
  HasShape y above (split d side number children) =
      AreNodeDuals above (free_count y) d × (own : ℕ) × IsPlaceOf (own_on side y) number own × (child_count children ≡ free_count y)
      × AllHaveShape y side own 0 children

  -- the children of a split of y, from number c on
  pub AllHaveShape : Placement → Side → ℕ → ℕ → Children → Type 0
  AllHaveShape y side own c no_children = Unit {0}
  AllHaveShape y side own c (closed rest) = AllHaveShape y side own (c + 1) rest
  AllHaveShape y side own c (image m rest) = IsImageOf y.size c m × AllHaveShape y side own (c + 1) rest
  AllHaveShape y side own c (grown t rest) = HasShape (child_on side y own c) true t × AllHaveShape y side own (c + 1) rest
