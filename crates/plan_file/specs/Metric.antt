-- The distances of points of the plane.
use Rattle.std.specs.Prelude.{◌≡◌, ℕ, ◌+◌, ◌-◌, ◌*◌, ◌^◌, ◌<◌, ◌≤◌, ⊤, ℤ, ◌-ℤ◌, unsigned_abs}
use Rattle.plan_table.specs.declared.places.Point.{Point}
use Rattle.plan_file.specs.declared.metric.Metric.{Metric}
use Rattle.plan_file.specs.declared.metric.Metric.TheVariants.{Rectilinear, Euclidean, Squared}

-- the greatest number of decimals of coordinates, and of Euclidean distances
abbrev pub max_coordinate_places : ℕ
max_coordinate_places = 9

-- the distance of two numbers
abbrev pub apart : ℤ → ℤ → ℕ
apart a b = unsigned_abs (a -ℤ b)

-- along the axes
abbrev pub rectilinear : Point → Point → ℕ
rectilinear p q = apart p.x q.x + apart p.y q.y

-- the square of the straight line's length
abbrev pub squared : Point → Point → ℕ
squared p q = apart p.x q.x * apart p.x q.x + apart p.y q.y * apart p.y q.y

-- k is the whole number nearest to 10^decimals * sqrt(square) / 10^scale, halves rounded up: that root is
-- from k - 1/2 to below k + 1/2; here all is doubled and squared, and multiplied by 10^(2 scale)
pub record IsNearestRoot (square scale decimals k : ℕ) : Type 0 where
  pub reached : (2 * k - 1) * (2 * k - 1) * 10 ^ (2 * scale) ≤ 4 * 10 ^ (2 * decimals) * square
  pub not_passed : 4 * 10 ^ (2 * decimals) * square < (2 * k + 1) * (2 * k + 1) * 10 ^ (2 * scale)

-- points whose coordinates represent c / 10^scale have this distance, as a whole number over the power of ten below
abbrev pub IsDistance : Metric → ℕ → Point → Point → ℕ → Type 0
IsDistance Rectilinear scale p q d = d ≡ rectilinear p q
IsDistance (Euclidean decimals) scale p q d = IsNearestRoot (squared p q) scale decimals d
IsDistance Squared scale p q d = d ≡ squared p q

-- a distance d represents d / 10 to this power
abbrev pub distance_scale : Metric → ℕ → ℕ
distance_scale Rectilinear scale = scale
distance_scale (Euclidean decimals) scale = decimals
distance_scale Squared scale = 2 * scale

-- the number of decimals is allowed
abbrev pub IsFine : Metric → Type 0
IsFine (Euclidean decimals) = decimals ≤ max_coordinate_places
IsFine _ = ⊤
