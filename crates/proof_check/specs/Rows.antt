-- Rows of pair duals that were read, and the lists that they yield.
use Rattle.std.specs.Prelude.{◌≡◌, ℕ, ◌+◌, ◌-◌, ◌*◌, ◌/◌, ◌%◌, ◌<◌, ◌==◌, if◌then◌else◌, nat_lt, All, List, [], length, map, ℤ, pos, slice_index_or}
use Rattle.std.specs.Global.{Vec}
use Rattle.pair_duals.specs.PairDuals.{cube, in_layers}
use Rattle.proof_tree.specs.Shape.{AreLimited}
use Rattle.proof_tree.specs.Text.{rows_text}
use Rattle.proof_tree.specs.Tree.{PairRows}
use Rattle.proof_check.specs.Flow.{Flow, Passes}

-- the lists that vectors hold
abbrev pub lists_of : List (Vec ℤ) → List (List ℤ)
lists_of rows = map (λ row. row.items) rows

-- the pair duals of this scale and these rows
abbrev pub rows_of : ℕ → List (List ℤ) → PairRows
rows_of scale rows = record { scale = scale; rows = rows }

-- m * m rows of 2 (m - 1) numbers, whose lines were read
pub record ReadsRows (m : ℕ) (rows : List (List ℤ)) (old new : Flow) : Type 0 where
  pub count : length rows ≡ m * m
  pub each : All (AreLimited (2 * (m - 1))) rows
  pub consumed : Passes old new (rows_text rows)

-- this many rows of that many numbers, whose lines were read
pub record HasRows (width count : ℕ) (rows : List (List ℤ)) (old new : Flow) : Type 0 where
  pub counted : length rows ≡ count
  pub each : All (AreLimited width) rows
  pub consumed : Passes old new (rows_text rows)

-- the number for `other` in a row, which lists those for all but `own` from a position on; 0 for `own` itself
abbrev pub number_of : List (List ℤ) → ℕ → ℕ → ℕ → ℕ → ℤ
number_of rows own other row start =
    if other == own then pos 0 else slice_index_or (slice_index_or rows row []) (start + (if nat_lt other own then other else other - 1)) (pos 0)

-- m layers that are m by m, with the number f(j,i,k) in layer j, row i, column k
pub record IsLayers (m : ℕ) (f : ℕ → ℕ → ℕ → ℤ) (xs : List ℤ) : Type 0 where
  pub count : length xs ≡ cube m
  pub each : (j i k : ℕ) → j < m → i < m → k < m → in_layers m xs j i k ≡ f j i k

-- of m layers that are m by m, the first numbers, this many, by rows and layers: f(j,i,k) in layer j, row i, column k
pub record IsFilled (m : ℕ) (f : ℕ → ℕ → ℕ → ℤ) (count : ℕ) (xs : List ℤ) : Type 0 where
  pub counted : length xs ≡ count
  pub each : (place : ℕ) → place < count → slice_index_or xs place (pos 0) ≡ f (place / m / m) (place / m % m) (place % m)
