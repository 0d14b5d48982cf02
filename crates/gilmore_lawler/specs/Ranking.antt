-- The rows of the two matrices sorted by their entries.
use Rattle.std.specs.Prelude.{ℕ, ◌==◌, ◌&&◌, not, false, Bool, IsTrue, List, filter, map, ℤ, slice_index_or}
use Rattle.std.specs.List.{range_with_len}
use Rattle.std.specs.List.Sorted.{IsPermutation}
use Rattle.qap_cost.specs.Instance.{Problem, IsInstance, entry}
use Rattle.gilmore_lawler.specs.declared.ranking.Ranked.{Ranked}
use Rattle.gilmore_lawler.specs.declared.side.Side.{Side}
use Rattle.gilmore_lawler.specs.declared.side.Side.TheVariants.{Flow, Distance}
use Rattle.gilmore_lawler.specs.Small.{AllSmall}
use Rattle.gilmore_lawler.specs.Table.{IsTable, matrix_of, IsOrdered}

-- row i, column j of a matrix, with its column
abbrev pub entry_with_column : ℕ → List ℤ → ℕ → ℕ → Ranked
entry_with_column n matrix i j = record { value = entry n matrix i j; column = j }

-- the entries of a list of these
abbrev pub values_of : List Ranked → List ℤ
values_of row = map (λ (x : Ranked). x.value) row

-- the entries of row i, each with its column, sorted
pub record IsRanking (I : Problem) (side : Side) (i : ℕ) (row : List Ranked) : Type 0 where
  pub moved : IsPermutation (map (entry_with_column I.size (matrix_of I side) i) (range_with_len 0 I.size)) row
  pub ordered : IsOrdered side (values_of row)

-- a sorted row for each row of the matrix
abbrev pub IsRankings : Problem → Side → List Ranked → Type 0
IsRankings I side rows = IsTable I.size I.size (IsRanking I side) rows

-- the sorted rows of both matrices, and whether the entries are known to be small
pub record HasRankings (I : Problem) (a b : List Ranked) (small : Bool) : Type 0 where
  pub instance : IsInstance I
  pub flows : IsRankings I Flow a
  pub distances : IsRankings I Distance b
  pub are_small : IsTrue small → AllSmall I.a × AllSmall I.b

-- whether an entry is in a free column other than this one
abbrev pub is_other : List Bool → ℕ → Ranked → Bool
is_other free own x = not (x.column == own) && slice_index_or free x.column false

-- the entries of a row in free columns other than this one
abbrev pub others_in : List Bool → ℕ → List Ranked → List ℤ
others_in free own row = values_of (filter (is_other free own) row)
