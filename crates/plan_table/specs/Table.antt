-- A matrix with names, as the records of a text spell it.
use Rattle.std.specs.Prelude.{◌≡◌, ℕ, ◌+◌, ◌<◌, ◌≤◌, true, List, [], ◌∷◌, ◌++◌, length, map, None, Some, ℤ, pos, slice_index_or}
use Rattle.csv.specs.Reading.{AreRecords, default_config, strip_bom}
use Rattle.csv.specs.declared.parser.Config.{Config}
use Rattle.csv.specs.declared.parser.State.TheVariants as state
use Rattle.plan_table.specs.CsvText.{IsCsv}
use Rattle.csv.specs.Records.{field_at}
use Rattle.plan_table.specs.Alike.{AreUnlike}
use Rattle.plan_table.specs.Halves.{AreReadFrom, IsSymmetric}
use Rattle.plan_table.specs.Marking.{IsMark}
use Rattle.plan_table.specs.Marks.{byte_of}
use Rattle.plan_table.specs.Names.{AreNames}
use Rattle.plan_table.specs.Numerals.{cell_in, number_in}
use Rattle.plan_table.specs.Scale.{AreScaled, IsLeastScale}
use Rattle.plan_table.specs.Separators.{separator_of}
use Rattle.plan_table.specs.Tidy.{tidied}
use Rattle.plan_table.specs.declared.decimal.Decimal.{Decimal}
use Rattle.plan_table.specs.declared.numeral.DecimalMark.{DecimalMark}
use Rattle.plan_table.specs.declared.numeral.Reading.{Reading}
use Rattle.plan_table.specs.declared.rules.Rules.{Rules}
use Rattle.plan_table.specs.declared.separator.Separator.{Separator}

-- the text of a table with this separator is read in this form
abbrev pub config_of : Separator → Config
config_of d = record default_config { delimiter = byte_of d }

-- the text is CSV with its most frequent separator in the first line; after an optional byte order mark, these are all
-- its records, without blanks around fields and without empty fields at their ends, omitting those that are then empty
pub record AreRecordsOf (text : List ℕ) (records : List (List (List ℕ))) : Type 0 where
  pub written : IsCsv (separator_of (strip_bom text)) (strip_bom text)
  pub raw : List (List (List ℕ))
  pub read : AreRecords (config_of (separator_of (strip_bom text))) state.StartRecord (strip_bom text) raw
  pub tidy : records ≡ tidied raw

-- a field of a record by its number; empty if there is none
abbrev pub word_at : List (List ℕ) → ℕ → List ℕ
word_at fields k = slice_index_or fields k []

-- a number of a list
abbrev pub decimal_at : List Decimal → ℕ → Decimal
decimal_at decimals c = slice_index_or decimals c (record { number = pos 0; places = 0 })

-- row i of a table begins with a name, and then this many cells spell these numbers; nothing follows
pub record IsRow (reading : Reading) (i count : ℕ) (name : List ℕ) (fields : List (List ℕ)) (decimals : List Decimal) : Type 0 where
  pub named : field_at fields 0 ≡ Some name
  pub ends : length fields ≤ count + 1
  pub many : length decimals ≡ count
  pub spelled : (c : ℕ) → c < count → cell_in reading i c (word_at fields (c + 1)) ≡ Some (decimal_at decimals c)

-- from row i on the records are the rows of these names, in order, each with this many cells; by rows they spell these numbers
abbrev pub AreRows : Reading → ℕ → ℕ → List (List ℕ) → List (List (List ℕ)) → List Decimal → Type 0
AreRows reading i count [] [] decimals = decimals ≡ []
AreRows reading i count [] (r ∷ rs) decimals = ⊥
AreRows reading i count (n ∷ ns) [] decimals = ⊥
AreRows reading i count (n ∷ ns) (r ∷ rs) decimals =
    (row rest : List Decimal) × (decimals ≡ row ++ rest) × IsRow reading i count n r row × AreRows reading (i + 1) count ns rs rest

-- records in the order of these numbers
abbrev pub in_order : List (List (List ℕ)) → List ℕ → List (List (List ℕ))
in_order rows order = map (λ k. slice_index_or rows k []) order

-- there are as many records as names, and in some order they are the rows of these
pub record AreRowsOf (reading : Reading) (count : ℕ) (names : List (List ℕ)) (rows : List (List (List ℕ))) (decimals : List Decimal) : Type 0 where
  pub many : length rows ≡ length names
  pub order : List ℕ
  pub inside : (i : ℕ) → i < length order → slice_index_or order i 0 < length rows
  pub read : AreRows reading 0 count names (in_order rows order) decimals

-- these rows are those of the names, with as many cells each, in any order; the entries are the numbers of the cells by rows, all times
-- the same power of ten, the least that makes them whole. The corner of the table is not a number with the same mark
pub record AreNumbersOf (rules : Rules) (corner : List ℕ) (rows : List (List (List ℕ))) (names : List (List ℕ)) (scale : ℕ) (entries : List ℤ) : Type 0 where
  pub mark : DecimalMark
  pub decimals : List Decimal
  pub unnumbered : number_in mark corner ≡ None
  pub marked : IsMark rules.decimal_mark rows 1 (length names + 1) mark
  pub read : AreRowsOf (record { mark = mark; round = rules.round; is_square = true }) (length names) names rows decimals
  pub least : IsLeastScale decimals scale
  pub scaled : AreScaled scale decimals entries

-- the rows are completed first if their halves may complete each other, and then both halves are equal
pub record IsNumbered (rules : Rules) (corner : List ℕ) (rows : List (List (List ℕ))) (names : List (List ℕ)) (scale : ℕ) (entries : List ℤ) : Type 0 where
  pub filled : List (List (List ℕ))
  pub completed : AreReadFrom rules.is_symmetric names rows filled
  pub numbers : AreNumbersOf rules corner filled names scale entries
  pub halves : IsSymmetric rules.is_symmetric (length names) entries

-- the records are a first field that is not a number, and the names, and then the rows of these names
pub record IsMatrix (rules : Rules) (records : List (List (List ℕ))) (names : List (List ℕ)) (scale : ℕ) (entries : List ℤ) : Type 0 where
  pub corner : List ℕ
  pub rows : List (List (List ℕ))
  pub is : records ≡ (corner ∷ names) ∷ rows
  pub named : AreNames names
  pub unlike : AreUnlike names
  pub numbered : IsNumbered rules corner rows names scale entries

-- the text is that of this matrix
pub record IsMatrixText (rules : Rules) (text : List ℕ) (names : List (List ℕ)) (scale : ℕ) (entries : List ℤ) : Type 0 where
  pub records : List (List (List ℕ))
  pub read : AreRecordsOf text records
  pub matrix : IsMatrix rules records names scale entries
