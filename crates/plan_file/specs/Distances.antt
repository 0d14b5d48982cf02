-- The distances between all points of a list.
use Rattle.std.specs.Prelude.{◌≡◌, ℕ, ◌+◌, ◌*◌, ◌/◌, ◌%◌, ◌<◌, ◌≤◌, ⊤, List, length, All, ℤ, pos, slice_index_or, unsigned_abs}
use Rattle.plan_table.specs.Decimal.{max_entry}
use Rattle.plan_table.specs.declared.places.Point.{Point}
use Rattle.plan_file.specs.Metric.{IsDistance}
use Rattle.plan_file.specs.declared.distances.DistanceError.{DistanceError}
use Rattle.plan_file.specs.declared.distances.DistanceError.TheVariants.{TooFar, OutOfMemory}
use Rattle.plan_file.specs.declared.metric.Metric.{Metric}

-- the point at this position of a list, or the origin past its end
abbrev pub point_at : List Point → ℕ → Point
point_at points i = slice_index_or points i (record { x = pos 0; y = pos 0 })

-- the number at a position of the matrix is the distance of the two points
pub record IsDistanceAt (metric : Metric) (scale : ℕ) (p q : Point) (z : ℤ) : Type 0 where
  pub distance : ℕ
  pub is : z ≡ pos distance
  pub between : IsDistance metric scale p q distance
  pub small : distance ≤ max_entry

-- the first numbers of the matrix, by rows
pub record AreMeasured (metric : Metric) (scale : ℕ) (points : List Point) (n count : ℕ) (entries : List ℤ) : Type 0 where
  pub many : length entries ≡ count
  pub each : (k : ℕ) → k < count → IsDistanceAt metric scale (point_at points (k / n)) (point_at points (k % n)) (slice_index_or entries k (pos 0))

-- for each two points, including a point and itself, their distance, by rows
pub record AreDistances (metric : Metric) (scale : ℕ) (points : List Point) (entries : List ℤ) : Type 0 where
  pub square : length entries ≡ length points * length points
  pub in_range : All (λ z. unsigned_abs z ≤ max_entry) entries
  pub each : (i j : ℕ) → i < length points → j < length points → IsDistanceAt metric scale (point_at points i) (point_at points j) (slice_index_or entries (i * length points + j) (pos 0))

-- two of the points are more than 10^9 apart
abbrev pub IsDistanceFault : Metric → ℕ → List Point → DistanceError → Type 0
IsDistanceFault metric scale points (TooFar i j) =
    (i < length points) × (j < length points) × (d : ℕ) × IsDistance metric scale (point_at points i) (point_at points j) d × (max_entry < d)
IsDistanceFault metric scale points OutOfMemory = ⊤
