-- Flows listed pair by pair, as the records of a text spell them.
use Rattle.std.specs.Prelude.{◌≡◌, ℕ, ◌*◌, ◌<◌, false, List, ◌∷◌, length, map, take, Option, ℤ, pos, slice_index_or}
use Rattle.plan_table.specs.Alike.{AreUnlike}
use Rattle.plan_table.specs.Halves.{IsSymmetric, mirror_of, of_halves}
use Rattle.plan_table.specs.Heads.{IsHead}
use Rattle.plan_table.specs.Listing.{AreOnce, AreTripsOf, filled, sum_of}
use Rattle.plan_table.specs.Marking.{IsMark}
use Rattle.plan_table.specs.Names.{AreNames}
use Rattle.plan_table.specs.Scale.{AreScaled, IsLeastScale}
use Rattle.plan_table.specs.Table.{AreRecordsOf}
use Rattle.plan_table.specs.Trips.{trips_head}
use Rattle.plan_table.specs.declared.numeral.DecimalMark.{DecimalMark}
use Rattle.plan_table.specs.declared.numeral.Reading.{Reading}
use Rattle.plan_table.specs.declared.rules.Rules.{Rules}
use Rattle.plan_table.specs.declared.trips.Trip.{Trip}

-- each record of a list gives the flow from one department to another. The matrix has for each pair the sum of these amounts, or nothing
-- if no record concerns it; if its halves complete each other, it then has the sum of the reverse direction. Unless amounts add
-- up, no two records concern the same pair. All amounts are multiplied by the least power of ten that makes them whole
pub record IsTripsMatrix (rules : Rules) (reading : Reading) (names : List (List ℕ)) (rows : List (List (List ℕ))) (scale : ℕ) (entries : List ℤ) : Type 0 where
  pub trips : List Trip
  pub amounts : List ℤ
  pub told : AreTripsOf reading names rows trips
  pub least : IsLeastScale (map (λ t. t.amount) trips) scale
  pub scaled : AreScaled scale (map (λ t. t.amount) trips) amounts
  pub square : length entries ≡ length names * length names
  pub sums : (c : ℕ) → c < length names * length names → slice_index_or entries c (pos 0)
      ≡ filled (of_halves rules.is_symmetric (sum_of (length names) trips amounts c (length trips)) (sum_of (length names) trips amounts (mirror_of (length names) c) (length trips)))
  pub once : rules.adds_up ≡ false → AreOnce (length names) trips (length trips)
  pub halves : IsSymmetric rules.is_symmetric (length names) entries

-- below the first line of the text, which is in upper or lower case, these are the first three fields of each record
pub record IsList (text : List ℕ) (rows : List (List (List ℕ))) : Type 0 where
  pub head : List (List ℕ)
  pub records : List (List (List ℕ))
  pub read : AreRecordsOf text (head ∷ records)
  pub headed : IsHead trips_head head
  pub cut : rows ≡ map (take 3) records

-- the text is that of such a list
pub record IsTripsText (rules : Rules) (text : List ℕ) (names : List (List ℕ)) (scale : ℕ) (entries : List ℤ) : Type 0 where
  pub rows : List (List (List ℕ))
  pub mark : DecimalMark
  pub read : IsList text rows
  pub named : AreNames names
  pub unlike : AreUnlike names
  pub marked : IsMark rules.decimal_mark rows 2 3 mark
  pub matrix : IsTripsMatrix rules (record { mark = mark; round = rules.round; is_square = false }) names rows scale entries
