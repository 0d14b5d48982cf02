-- How many entries a matrix with names has.
use Rattle.std.proofs.Common.{◌≡◌, ◌*◌, ◌∙◌, ap, ap₂, length, map, sym, List, ℕ, ℤ}
use Rattle.std.proofs.lemmas.List.{length-map}
use Rattle.plan_table.specs.Grid.{IsNamedGrid}
use Rattle.plan_table.specs.Names.{AreNames}
use Rattle.plan_table.specs.Scale.{scaled, AreScaled}
use Rattle.plan_table.specs.Shape.{IsNamedSquare}
use Rattle.plan_table.specs.Table.{AreRowsOf, in_order}
use Rattle.plan_table.specs.declared.decimal.Decimal.{Decimal}
use Rattle.plan_table.specs.declared.numeral.Reading.{Reading}
use Rattle.plan_table.proofs.RowLists.{AreRows-count}

-- the entries are the numbers of the rows, as many in each as there are names
pub square_of : {A : Type 0} (reading : Reading) (f : A → List ℕ) (names lent_names : List A) (count : ℕ) (rows : List (List (List ℕ))) (decimals lent : List Decimal) (scale : ℕ) (entries : List ℤ)
    → count ≡ length names → lent_names ≡ names → lent ≡ decimals → AreNames (map f names) → AreRowsOf reading count (map f lent_names) rows decimals → AreScaled scale lent entries
    → IsNamedSquare (map f names) entries
square_of reading f names lent_names count rows decimals lent scale entries count_is same_names same named read scaled_so =
    let many : count ≡ length (map f names) = count_is ∙ sym (length-map names f) in
    let by_rows : length (map f lent_names) ≡ length (map f names) = ap (λ l. length (map f l)) same_names in
    record {
      named = named;
      square =
          ap (λ (l : List ℤ). length l) scaled_so.exact
          ∙ length-map lent (scaled scale)
          ∙ ap (λ (l : List Decimal). length l) same
          ∙ AreRows-count reading 0 count (map f lent_names) (in_order rows read.order) decimals read.read
          ∙ ap₂ (λ j k. j * k) by_rows many;
      in_range = scaled_so.in_range;
    }

-- the entries are the numbers of the rows, as many in each as there are columns
pub grid_of : {A : Type 0} (reading : Reading) (f : A → List ℕ) (names columns : List A) (count : ℕ) (rows : List (List (List ℕ))) (decimals lent : List Decimal) (scale : ℕ) (entries : List ℤ)
    → count ≡ length columns → lent ≡ decimals → AreNames (map f names) → AreNames (map f columns) → AreRowsOf reading count (map f names) rows decimals → AreScaled scale lent entries
    → IsNamedGrid (map f names) (map f columns) entries
grid_of reading f names columns count rows decimals lent scale entries count_is same named named_columns read scaled_so =
    let many : count ≡ length (map f columns) = count_is ∙ sym (length-map columns f) in
    record {
      named_rows = named;
      named_columns = named_columns;
      many =
          ap (λ (l : List ℤ). length l) scaled_so.exact
          ∙ length-map lent (scaled scale)
          ∙ ap (λ (l : List Decimal). length l) same
          ∙ AreRows-count reading 0 count (map f names) (in_order rows read.order) decimals read.read
          ∙ ap (λ k. length (map f names) * k) many;
      in_range = scaled_so.in_range;
    }
