-- Pair duals of a node of the search: multipliers of the level-1 reformulation of the quadratic assignment problem (Adams and
-- Johnson 1994), of which those for the equations y(i,k,j,l) = y(j,l,i,k) are eliminated. Hahn and Grant (1998) find such duals.
use Rattle.std.specs.Prelude.{◌≡◌, ◌≢◌, ℕ, ◌+◌, ◌*◌, ◌^◌, ◌<◌, ◌≤◌, List, length, ℤ, pos, ◌+ℤ◌, ◌-ℤ◌, ◌*ℤ◌, ◌≤ℤ◌, slice_index, slice_index_or}
use Rattle.qap_cost.specs.Instance.{Problem}
use Rattle.qap_cost.specs.Placement.{Placement, free_facilities, free_locations}
use Rattle.qap_cost.specs.Range.{AllWithin}
use Rattle.pair_duals.specs.CostOfPair.{cost_of_pair}
use Rattle.pair_duals.specs.Limits.{Limits}

-- the number of entries of m layers that are m by m
abbrev pub cube : ℕ → ℕ
cube m = (m * m) * m

-- the free facilities and locations of a node, m of each; for each free facility i and location k a number alpha(i,k,j) for each other
-- facility j and beta(i,k,l) for each other location l; all in units of cost divided by the scale
pub record Duals : Type 0 where
  pub size : ℕ
  pub facilities : List ℕ
  pub locations : List ℕ
  pub scale : ℕ
  pub alpha : List ℤ
  pub beta : List ℤ

-- they are those of the node
pub record AreOf (x : Placement) (D : Duals) : Type 0 where
  pub size : D.size ≡ x.size
  pub facilities : D.facilities ≡ free_facilities x
  pub locations : D.locations ≡ free_locations x

-- the numbers are within the limits of a width, and there are as many as the free facilities require
pub record AreDuals (m : Limits) (D : Duals) : Type 0 where
  pub size : D.size ≤ m.size
  pub same_count : length D.locations ≡ length D.facilities
  pub count : length D.facilities ≤ D.size
  pub facilities : (i : ℕ) → i < length D.facilities → slice_index D.facilities i < D.size
  pub locations : (k : ℕ) → k < length D.locations → slice_index D.locations k < D.size
  pub positive : 0 < D.scale
  pub scale : D.scale ≤ 2 ^ 20
  pub alpha_count : length D.alpha ≡ cube (length D.facilities)
  pub beta_count : length D.beta ≡ cube (length D.facilities)
  pub alpha_range : AllWithin m.dual D.alpha
  pub beta_range : AllWithin m.dual D.beta

-- the number in layer j, row i, column k of m layers that are m by m
abbrev pub in_layers : ℕ → List ℤ → ℕ → ℕ → ℕ → ℤ
in_layers m xs j i k = slice_index_or xs ((j * m + i) * m + k) (pos 0)

-- the dual alpha(i,k,j), of the i-th facility at the k-th location for the j-th facility
abbrev pub alpha_of : Duals → ℕ → ℕ → ℕ → ℤ
alpha_of D i k j = in_layers (length D.facilities) D.alpha j i k

-- the dual beta(i,k,l), of the i-th facility at the k-th location for the l-th location
abbrev pub beta_of : Duals → ℕ → ℕ → ℕ → ℤ
beta_of D i k l = in_layers (length D.facilities) D.beta l i k

-- the scaled cost of the i-th and j-th facilities at the k-th and l-th locations
abbrev pub scaled_cost : Problem → Duals → ℕ → ℕ → ℕ → ℕ → ℤ
scaled_cost I D i k j l =
    pos D.scale *ℤ cost_of_pair I (slice_index D.facilities i) (slice_index D.locations k) (slice_index D.facilities j) (slice_index D.locations l)

-- its residual under the duals of both
abbrev pub residual : Problem → Duals → ℕ → ℕ → ℕ → ℕ → ℤ
residual I D i k j l =
    scaled_cost I D i k j l -ℤ ((alpha_of D i k j +ℤ beta_of D i k l) +ℤ (alpha_of D j l i +ℤ beta_of D j l k))

-- every pair has a nonnegative residual
pub record Fit (I : Problem) (D : Duals) : Type 0 where
  pub below : (i k j l : ℕ) → i < length D.facilities → k < length D.locations → j < length D.facilities → l < length D.locations
      → i ≢ j → k ≢ l → pos 0 ≤ℤ residual I D i k j l
