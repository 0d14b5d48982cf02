-- Tables whose halves may complete each other.
use Rattle.std.specs.Prelude.{◌≡◌, ⊤, ℕ, ◌+◌, ◌*◌, ◌/◌, ◌%◌, ◌<◌, ◌⊎◌, Bool, true, false, List, [], length, Option, None, Some, ℤ, slice_index_or}
use Rattle.csv.specs.Records.{field_at}
use Rattle.plan_table.specs.Numerals.{is_nothing}
use Rattle.plan_table.specs.Trips.{flow_at, name_at, row_at}

-- a word is in the cell of two names, where field f of a row is the cell of the same two in the reverse direction
pub record IsMirrored (names : List (List ℕ)) (rows : List (List (List ℕ))) (row : List (List ℕ)) (f : ℕ) (word : List ℕ) : Type 0 where
  pub from : ℕ
  pub to : ℕ
  pub at : ℕ
  pub column : f ≡ to + 1
  pub inside : at < length rows
  pub named : field_at row 0 ≡ Some (name_at names from)
  pub other : field_at (row_at rows at) 0 ≡ Some (name_at names to)
  pub is : word ≡ slice_index_or (row_at rows at) (from + 1) []

-- a field is unchanged, or it was empty and has the word of the reverse direction
abbrev pub IsFilledIn : List (List ℕ) → List (List (List ℕ)) → List (List ℕ) → ℕ → List ℕ → Type 0
IsFilledIn names rows row f word =
    (word ≡ slice_index_or row f []) ⊎ ((is_nothing (slice_index_or row f []) ≡ true) × IsMirrored names rows row f word)

-- likewise for each field of a row
pub record IsCompleted (names : List (List ℕ)) (rows : List (List (List ℕ))) (row filled : List (List ℕ)) : Type 0 where
  pub each : (f : ℕ) → IsFilledIn names rows row f (slice_index_or filled f [])

-- likewise for each row
pub record AreCompleted (names : List (List ℕ)) (rows filled : List (List (List ℕ))) : Type 0 where
  pub many : length filled ≡ length rows
  pub each : (k : ℕ) → k < length rows → IsCompleted names rows (row_at rows k) (row_at filled k)

-- the rows that are read: those of the table, completed if its halves complete each other
abbrev pub AreReadFrom : Bool → List (List ℕ) → List (List (List ℕ)) → List (List (List ℕ)) → Type 0
AreReadFrom false names rows read = read ≡ rows
AreReadFrom true names rows read = AreCompleted names rows read

-- the flow in each direction is the same
abbrev pub AreMirrored : ℕ → List ℤ → Type 0
AreMirrored n entries = (i j : ℕ) → i < n → j < n → flow_at n entries i j ≡ flow_at n entries j i

-- the two halves of a matrix are equal if they complete each other
abbrev pub IsSymmetric : Bool → ℕ → List ℤ → Type 0
IsSymmetric false n entries = ⊤
IsSymmetric true n entries = AreMirrored n entries

-- the cell of the same two in the reverse direction, by rows
abbrev pub mirror_of : ℕ → ℕ → ℕ
mirror_of n cell = (cell % n) * n + cell / n

-- the first value, or if there is none the second
abbrev pub either : Option ℤ → Option ℤ → Option ℤ
either None other = other
either (Some z) other = Some z

-- the value of a cell, if the reverse direction may complete it
abbrev pub of_halves : Bool → Option ℤ → Option ℤ → Option ℤ
of_halves false own other = own
of_halves true own other = either own other
