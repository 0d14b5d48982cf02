-- Tables of numbers whose rows and columns have names of their own.
use Rattle.std.specs.Prelude.{◌≡◌, ℕ, ◌+◌, ◌*◌, ◌<◌, ◌≤◌, false, List, [], ◌∷◌, length, None, All, ℤ, slice_index_or, unsigned_abs}
use Rattle.plan_table.specs.Alike.{AreUnlike}
use Rattle.plan_table.specs.Decimal.{max_entry}
use Rattle.plan_table.specs.Marking.{IsMark}
use Rattle.plan_table.specs.Names.{AreNames, HasName}
use Rattle.plan_table.specs.Numerals.{number_in}
use Rattle.plan_table.specs.Scale.{AreScaled, IsLeastScale}
use Rattle.plan_table.specs.Table.{AreRecordsOf, AreRowsOf}
use Rattle.plan_table.specs.declared.decimal.Decimal.{Decimal}
use Rattle.plan_table.specs.declared.numeral.DecimalMark.{DecimalMark}
use Rattle.plan_table.specs.declared.rules.Rules.{Rules}

-- each of the names is one of the others
abbrev pub AreAmong : List (List ℕ) → List (List ℕ) → Type 0
AreAmong names others = (k : ℕ) → k < length names → HasName others (slice_index_or names k [])

-- these records are the rows of these names, with a cell for each column; the entries are the numbers of the cells by rows, all times the same
-- power of ten, the least that makes them whole. The corner of the table is not a number with the same mark
pub record AreCellsOf (rules : Rules) (corner : List ℕ) (below : List (List (List ℕ))) (rows columns : List (List ℕ)) (scale : ℕ) (entries : List ℤ) : Type 0 where
  pub mark : DecimalMark
  pub decimals : List Decimal
  pub unnumbered : number_in mark corner ≡ None
  pub marked : IsMark rules.decimal_mark below 1 (length columns + 1) mark
  pub read : AreRowsOf (record { mark = mark; round = rules.round; is_square = false }) (length columns) rows below decimals
  pub least : IsLeastScale decimals scale
  pub scaled : AreScaled scale decimals entries

-- the records are a first field that is not a number, and the names of the columns, and then the rows of these names
pub record IsGrid (rules : Rules) (records : List (List (List ℕ))) (rows columns : List (List ℕ)) (scale : ℕ) (entries : List ℤ) : Type 0 where
  pub corner : List ℕ
  pub below : List (List (List ℕ))
  pub is : records ≡ (corner ∷ columns) ∷ below
  pub unlike_rows : AreUnlike rows
  pub unlike_columns : AreUnlike columns
  pub cells : AreCellsOf rules corner below rows columns scale entries

-- the text is that of this table
pub record IsGridText (rules : Rules) (text : List ℕ) (rows columns : List (List ℕ)) (scale : ℕ) (entries : List ℤ) : Type 0 where
  pub records : List (List (List ℕ))
  pub read : AreRecordsOf text records
  pub grid : IsGrid rules records rows columns scale entries

-- 1 to 256 distinct names of rows and as many of columns, and for each row and column an entry from -10^9 to 10^9
pub record IsNamedGrid (rows columns : List (List ℕ)) (entries : List ℤ) : Type 0 where
  pub named_rows : AreNames rows
  pub named_columns : AreNames columns
  pub many : length entries ≡ length rows * length columns
  pub in_range : All (λ z. unsigned_abs z ≤ max_entry) entries
