-- Places with coordinates, as the records of a text spell them.
use Rattle.std.specs.Prelude.{◌≡◌, ◌≢◌, ℕ, ◌<◌, ◌≤◌, false, List, [], ◌∷◌, length, All, ℤ, pos, codes, slice_index_or, unsigned_abs}
use Rattle.plan_table.specs.Alike.{AreUnlike}
use Rattle.plan_table.specs.Decimal.{max_entry}
use Rattle.plan_table.specs.Heads.{IsHead}
use Rattle.plan_table.specs.Marking.{IsMark}
use Rattle.plan_table.specs.Names.{AreNames}
use Rattle.plan_table.specs.Scale.{AreScaled, IsLeastScale}
use Rattle.plan_table.specs.Table.{AreRecordsOf, AreRowsOf}
use Rattle.plan_table.specs.declared.decimal.Decimal.{Decimal}
use Rattle.plan_table.specs.declared.numeral.DecimalMark.{DecimalMark}
use Rattle.plan_table.specs.declared.places.Point.{Point}
use Rattle.plan_table.specs.declared.rules.Rules.{Rules}

-- the fields of the first line
abbrev pub places_head : List (List ℕ)
places_head = codes "name" ∷ codes "x" ∷ codes "y" ∷ []

-- a point, by its number
abbrev pub point_at : List Point → ℕ → Point
point_at points i = slice_index_or points i (record { x = pos 0; y = pos 0 })

-- the coordinates of points, in sequence, x before y
abbrev pub coordinates_of : List Point → List ℤ
coordinates_of [] = []
coordinates_of (p ∷ ps) = p.x ∷ p.y ∷ coordinates_of ps

-- no two points are equal
pub record AreApart (points : List Point) : Type 0 where
  pub once : (j k : ℕ) → j < k → k < length points → point_at points j ≢ point_at points k

-- each coordinate is from -10^9 to 10^9
abbrev pub IsNear : Point → Type 0
IsNear p = (unsigned_abs p.x ≤ max_entry) × (unsigned_abs p.y ≤ max_entry)

-- the text has the first line, in upper or lower case, and then for each of these names, in order, a line with the name and the
-- numbers x and y; the coordinates are these numbers, all times the same power of ten, the least that makes them whole
pub record IsPlacesText (rules : Rules) (text : List ℕ) (names : List (List ℕ)) (scale : ℕ) (points : List Point) : Type 0 where
  pub head : List (List ℕ)
  pub rows : List (List (List ℕ))
  pub mark : DecimalMark
  pub decimals : List Decimal
  pub read : AreRecordsOf text (head ∷ rows)
  pub headed : IsHead places_head head
  pub named : AreNames names
  pub unlike : AreUnlike names
  pub marked : IsMark rules.decimal_mark rows 1 3 mark
  pub spelled : AreRowsOf (record { mark = mark; round = rules.round; is_square = false }) 2 names rows decimals
  pub least : IsLeastScale decimals scale
  pub scaled : AreScaled scale decimals (coordinates_of points)
  pub apart : AreApart points

-- 1 to 256 distinct names, and for each of them a point
pub record AreNamedPoints (names : List (List ℕ)) (points : List Point) : Type 0 where
  pub named : AreNames names
  pub many : length points ≡ length names
  pub near : All IsNear points
