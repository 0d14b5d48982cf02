-- How the matrix of listed flows is built.
use Rattle.std.specs.Prelude.{◌≡◌, ◌≢◌, ℕ, zero, suc, ◌+◌, ◌*◌, ◌<◌, ◌≤◌, ◌⊎◌, ◌==◌, Bool, false, if◌then◌else◌, List, [], ◌∷◌, ◌++◌, length, Option, None, Some, ℤ, pos, ◌+ℤ◌, slice_index_or, unsigned_abs}
use Rattle.plan_table.specs.Decimal.{max_entry}
use Rattle.plan_table.specs.Halves.{IsSymmetric, mirror_of, of_halves}
use Rattle.plan_table.specs.Names.{HasName, IsNew}
use Rattle.plan_table.specs.Numerals.{kept_in}
use Rattle.plan_table.specs.Trips.{name_at, pair_row, row_at}
use Rattle.plan_table.specs.declared.numeral.Reading.{Reading}
use Rattle.plan_table.specs.declared.trips.Trip.{Trip}

-- a record gives this amount for this trip
pub record IsTripOf (reading : Reading) (names : List (List ℕ)) (row : List (List ℕ)) (t : Trip) : Type 0 where
  pub from_inside : t.from < length names
  pub to_inside : t.to < length names
  pub word : List ℕ
  pub is : row ≡ pair_row (name_at names t.from) (name_at names t.to) word
  pub spelled : kept_in reading word ≡ Some t.amount

-- a trip, by its number
abbrev pub trip_at : List Trip → ℕ → Trip
trip_at trips k = slice_index_or trips k (record { from = 0; to = 0; amount = record { number = pos 0; places = 0 } })

-- each record gives this amount for the trip of its number
pub record AreTripsOf (reading : Reading) (names : List (List ℕ)) (rows : List (List (List ℕ))) (trips : List Trip) : Type 0 where
  pub many : length trips ≡ length rows
  pub each : (k : ℕ) → k < length trips → IsTripOf reading names (row_at rows k) (trip_at trips k)

-- the position of a trip's amount in the matrix
abbrev pub cell_of : ℕ → Trip → ℕ
cell_of n t = t.from * n + t.to

-- a cell of the matrix, by its position
abbrev pub cell_at : List (Option ℤ) → ℕ → Option ℤ
cell_at cells c = slice_index_or cells c None

-- the trips are between n departments
abbrev pub AreInside : ℕ → List Trip → Type 0
AreInside n trips = (k : ℕ) → k < length trips → ((trip_at trips k).from < n) × ((trip_at trips k).to < n)

-- the content of a cell
abbrev pub filled : Option ℤ → ℤ
filled None = pos 0
filled (Some z) = z

-- one more amount
abbrev pub added : Option ℤ → ℤ → ℤ
added None z = z
added (Some y) z = y +ℤ z

-- the amount of a cell according to the first trips: the sum of the amounts that concern it, if any
abbrev pub sum_of : ℕ → List Trip → List ℤ → ℕ → ℕ → Option ℤ
sum_of n trips amounts cell zero = None
sum_of n trips amounts cell (suc k) =
    if cell_of n (trip_at trips k) == cell then Some (added (sum_of n trips amounts cell k) (slice_index_or amounts k (pos 0))) else sum_of n trips amounts cell k

-- no two of the first trips concern the same cell
abbrev pub AreOnce : ℕ → List Trip → ℕ → Type 0
AreOnce n trips count = (j k : ℕ) → j < k → k < count → cell_of n (trip_at trips j) ≢ cell_of n (trip_at trips k)

-- each cell of the matrix has its amount according to the first trips; unless amounts add up, no two of them concern the same cell
pub record ArePlaced (n : ℕ) (adds_up : Bool) (trips : List Trip) (amounts : List ℤ) (count : ℕ) (cells : List (Option ℤ)) : Type 0 where
  pub many : length cells ≡ n * n
  pub each : (c : ℕ) → c < n * n → cell_at cells c ≡ sum_of n trips amounts c count
  pub once : adds_up ≡ false → AreOnce n trips count
  pub small : (c : ℕ) → unsigned_abs (filled (cell_at cells c)) ≤ max_entry

-- the entries are the contents of the cells; if the halves complete each other, an empty cell has the content of the reverse direction, and
-- the entries of the two are equal
pub record AreEntriesOf (is_symmetric : Bool) (n : ℕ) (cells : List (Option ℤ)) (entries : List ℤ) : Type 0 where
  pub many : length entries ≡ n * n
  pub each : (c : ℕ) → c < n * n → slice_index_or entries c (pos 0) ≡ filled (of_halves is_symmetric (cell_at cells c) (cell_at cells (mirror_of n c)))
  pub halves : IsSymmetric is_symmetric n entries

-- names with one more, unless it is already among them
abbrev pub IsWith : List ℕ → List (List ℕ) → List (List ℕ) → Type 0
IsWith name old new = (HasName old name × (new ≡ old)) ⊎ (IsNew old name × (new ≡ old ++ name ∷ []))
