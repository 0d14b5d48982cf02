-- What makes a tree prove a bound: the splits omit no permutation; the duals of a closed node reach the bound, by
-- Gilmore (1962) and Lawler (1963); for a pruned child, the duals of its split plus the reduced cost of the pair that
-- the child places reach it; and a symmetric child has the same costs as an
-- earlier one, since a permutation that preserves one of the two matrices maps that one's permutations to its own.
use Rattle.std.specs.Prelude.{◌≡◌, ℕ, ◌+◌, ◌<◌, List, length, ℤ, pos, ◌+ℤ◌, ◌-ℤ◌, ◌≤ℤ◌, Option, Some, None, slice_index, slice_index_or}
use Rattle.qap_cost.specs.Instance.{Problem}
use Rattle.qap_cost.specs.Matrix.{dual_value, entry_of}
use Rattle.qap_cost.specs.Placement.{Placement, free_facilities, free_locations, fixed_cost_of}
use Rattle.qap_cost.specs.Symmetry.{Keeps}
use Rattle.gilmore_lawler.specs.Closing.{Fits, Closes}
use Rattle.qap_proof.specs.Tree.{Pair, Split, Node, closed, split, cut, mirrored, Nodes, no_nodes, node, child_count, IsFreeOn, facility_on, location_on, Place, whole, child, node_at}
use Rattle.qap_proof.specs.declared.side.Side.{Side}
use Rattle.qap_proof.specs.declared.side.Side.TheVariants.{Facility, Location}

-- the duals of a split, if it has any, fit
abbrev pub MayFit : Problem → Placement → Option Pair → Type 0
MayFit I x None = Unit {0}
MayFit I x (Some d) = Fits I x d.u d.v

-- the value of the duals if facility i is put at location k, with the cost of the placed facilities: row r is that of i,
-- column c that of k, and the entry there replaces its two duals
pub record Reaches (I : Problem) (x : Placement) (d : Pair) (i k : ℕ) (value : ℤ) : Type 0 where
  pub fits : Fits I x d.u d.v
  pub row : ℕ
  pub row_within : row < length (free_facilities x)
  pub row_of : slice_index (free_facilities x) row ≡ i
  pub column : ℕ
  pub column_within : column < length (free_locations x)
  pub column_of : slice_index (free_locations x) column ≡ k
  pub is : value ≡ fixed_cost_of I x +ℤ dual_value d.u d.v +ℤ entry_of fits.matrix row column -ℤ slice_index_or d.u row (pos 0) -ℤ slice_index_or d.v column (pos 0)

-- the split has duals, whose value is at least g for its child number c
pub record IsCut (I : Problem) (g : ℤ) (x : Placement) (s : Split) (c : ℕ) : Type 0 where
  pub duals : Pair
  pub has : s.duals ≡ Some duals
  pub value : ℤ
  pub reaches : Reaches I x duals (facility_on s.side x s.number c) (location_on s.side x s.number c) value
  pub enough : g ≤ℤ value

-- a permutation of n numbers that preserves an n by n matrix, fixes those taken, and maps one number to another
pub record Takes (n : ℕ) (matrix : List ℤ) (taken m : List ℕ) (from to : ℕ) : Type 0 where
  pub keeps : Keeps n matrix m
  pub stays : (t : ℕ) → t < length taken → slice_index m (slice_index taken t) ≡ slice_index taken t
  pub takes : slice_index m from ≡ to

-- if the split is on a facility, the permutation is of the locations and preserves the distances; if it is on a location, it is
-- of the facilities and preserves the flows; and it maps what child number j has to what child number c has
abbrev pub TakesOn : Side → Problem → Placement → ℕ → ℕ → List ℕ → Type 0
TakesOn Facility I x j c m = Takes x.size I.b x.places m (slice_index (free_locations x) j) (slice_index (free_locations x) c)
TakesOn Location I x j c m = Takes x.size I.a x.facilities m (slice_index (free_facilities x) j) (slice_index (free_facilities x) c)

abbrev mutual
  -- no permutation that completes the node at this place costs less than g, and the tree shows why
  pub Valid : Problem → ℤ → Place → Node → Type 0
  Valid I g p (closed d) = Closes I g (node_at p) d.u d.v
  Valid I g p (split s children) =
      IsFreeOn s.side (node_at p) s.number × MayFit I (node_at p) s.duals
      × (child_count children + length (node_at p).facilities ≡ (node_at p).size) × AllValid I g (node_at p) s 0 children
  Valid I g (whole x) cut = ⊥
  Valid I g (child x s c) cut = IsCut I g x s c
  Valid I g (whole x) (mirrored j m) = ⊥
  Valid I g (child x s c) (mirrored j m) = (j < c) × TakesOn s.side I x j c m

  -- the children of a split of x, from number c on
  pub AllValid : Problem → ℤ → Placement → Split → ℕ → Nodes → Type 0
  AllValid I g x s c no_nodes = Unit {0}
  AllValid I g x s c (node t rest) = Valid I g (child x s c) t × AllValid I g x s (c + 1) rest
