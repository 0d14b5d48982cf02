-- Rows of a table, cell by cell and row by row.
use Rattle.std.proofs.Common.{◌≡◌, ℕ, ◌+◌, ◌*◌, ◌/◌, ◌<◌, ◌≤◌, List, [], ◌∷◌, ◌++◌, length, map, take, get_or, Some, refl, sym, ap, subst, inl, inr, ◌∙◌, arith, append_assoc, length-append}
use Rattle.std.proofs.lemmas.Bool.{cases_lt}
use Rattle.std.proofs.lemmas.List.{append-nil, get_or_append_left, get_or_at, map-append, map_more}
use Rattle.std.proofs.lemmas.Nat.{div_below}
use Rattle.csv.specs.Records.{field_at}
use Rattle.plan_table.specs.Numerals.{cell_in}
use Rattle.plan_table.specs.Table.{AreRows, AreRowsOf, IsRow, decimal_at, in_order, word_at}
use Rattle.plan_table.specs.declared.decimal.Decimal.{Decimal}
use Rattle.plan_table.specs.declared.numeral.Reading.{Reading}

-- so many cells of row i of a record, whose numbers were put behind others
pub record HasCells (reading : Reading) (i : ℕ) (fields : List (List ℕ)) (count : ℕ) (old new : List Decimal) : Type 0 where
  pub row : List Decimal
  pub many : length row ≡ count
  pub spelled : (c : ℕ) → c < count → cell_in reading i c (word_at fields (c + 1)) ≡ Some (decimal_at row c)
  pub pushed : new ≡ old ++ row

-- no cell yet
pub HasCells-none : (reading : Reading) (i : ℕ) (fields : List (List ℕ)) (old : List Decimal) → HasCells reading i fields 0 old old
HasCells-none reading i fields old = record {
  row = [];
  many = refl;
  spelled = λ c below. absurd (omega arith);
  pushed = sym (append-nil old);
}

-- one cell more
pub HasCells-more : (reading : Reading) (i : ℕ) (fields : List (List ℕ)) (count : ℕ) (old new newer : List Decimal) (d : Decimal) → HasCells reading i fields count old new
    → cell_in reading i count (word_at fields (count + 1)) ≡ Some d → newer ≡ new ++ d ∷ [] → HasCells reading i fields (count + 1) old newer
HasCells-more reading i fields count old new newer d read spells pushed = record {
  row = read.row ++ d ∷ [];
  many = length-append read.row (d ∷ []) ∙ ap (λ k. k + 1) read.many;
  spelled = λ c below.
      elim (cases_lt c (length read.row)) [
        | inl before ↦
            read.spelled c (omega (arith, before, read.many)) ∙ ap Some (sym (get_or_append_left read.row (d ∷ []) _ c before))
        | inr past ↦
            let here : length read.row ≡ c = omega (arith, read.many, below, past) in
            let last : count ≡ c = sym read.many ∙ here in
            subst (λ k. cell_in reading i k (word_at fields (k + 1)) ≡ Some d) last spells ∙ ap Some (sym (get_or_at read.row d [] _ c here))
      ];
  pushed = pushed ∙ ap (λ l. l ++ d ∷ []) read.pushed ∙ append_assoc old read.row (d ∷ []);
}

-- where the record begins with a name and ends behind them, they are its row
pub HasCells-all : (reading : Reading) (i : ℕ) (name : List ℕ) (fields : List (List ℕ)) (read_so_far count : ℕ) (old new : List Decimal) → HasCells reading i fields read_so_far old new → read_so_far ≡ count
    → field_at fields 0 ≡ Some name → length fields ≤ count + 1 → (row : List Decimal) × IsRow reading i count name fields row × (new ≡ old ++ row)
HasCells-all reading i name fields read_so_far count old new read all named ends = (
  read.row,
  record {
    named = named;
    ends = ends;
    many = read.many ∙ all;
    spelled = λ c below. read.spelled c (omega (arith, all, below));
  },
  read.pushed,
)

-- one row more, behind the others
pub AreRows-push : (reading : Reading) (i count : ℕ) (names : List (List ℕ)) (rows : List (List (List ℕ))) (decimals row : List Decimal) (name : List ℕ) (fields : List (List ℕ)) → AreRows reading i count names rows decimals
    → IsRow reading (i + length names) count name fields row → AreRows reading i count (names ++ name ∷ []) (rows ++ fields ∷ []) (decimals ++ row)
AreRows-push reading i count [] [] decimals row name fields none last =
    let here : i + length {A = List ℕ} [] ≡ i = omega arith in
    (row, [], ap (λ l. l ++ row) none ∙ sym (append-nil row), subst (λ k. IsRow reading k count name fields row) here last, refl)
AreRows-push reading i count [] (r ∷ rs) decimals row name fields none last = absurd none
AreRows-push reading i count (n ∷ ns) [] decimals row name fields none last = absurd none
AreRows-push reading i count (n ∷ ns) (r ∷ rs) decimals row name fields rows last =
    let (front, rest, is, first, more) = rows in
    let next : i + length (n ∷ ns) ≡ (i + 1) + length ns = omega arith in
    (front, rest ++ row, ap (λ l. l ++ row) is ∙ append_assoc front rest row, first, AreRows-push reading (i + 1) count ns rs rest row name fields more (subst (λ k. IsRow reading k count name fields row) next last))

-- one row more of those that names are seen as, found under this number
pub AreRows-more : {A : Type 0} (reading : Reading) (count : ℕ) (f : A → List ℕ) (names : List A) (rows : List (List (List ℕ))) (order : List ℕ) (i k : ℕ) (name : A) (fields : List (List ℕ)) (decimals row newer : List Decimal)
    → i < length names → name ≡ get_or names i name → get_or rows k [] ≡ fields → length (map f (take i names)) ≡ i
    → AreRows reading 0 count (map f (take i names)) (in_order rows order) decimals → IsRow reading i count (f name) fields row → newer ≡ decimals ++ row
    → AreRows reading 0 count (map f (take (i + 1) names)) (in_order rows (order ++ k ∷ [])) newer
AreRows-more reading count f names rows order i k name fields decimals row newer named is_name is_row long read last pushed =
    let more_names = map_more f names i name named ∙ ap (λ x. map f (take i names) ++ f x ∷ []) (sym is_name) in
    let more_rows = map-append (λ (j : ℕ). get_or rows j []) order (k ∷ []) ∙ ap (λ x. in_order rows order ++ x ∷ []) is_row in
    let there : i ≡ 0 + length (map f (take i names)) = omega (arith, long) in
    rw (more_names, more_rows, pushed) (AreRows-push reading 0 count (map f (take i names)) (in_order rows order) decimals row (f name) fields read (subst (λ j. IsRow reading j count (f name) fields row) there last))

-- there are as many numbers as cells
pub AreRows-count : (reading : Reading) (i count : ℕ) (names : List (List ℕ)) (rows : List (List (List ℕ))) (decimals : List Decimal) → AreRows reading i count names rows decimals
    → length decimals ≡ length names * count
AreRows-count reading i count [] [] decimals none =
    let no_number : length decimals ≡ 0 = ap (λ (l : List Decimal). length l) none in omega (arith, no_number)
AreRows-count reading i count [] (r ∷ rs) decimals none = absurd none
AreRows-count reading i count (n ∷ ns) [] decimals none = absurd none
AreRows-count reading i count (n ∷ ns) (r ∷ rs) decimals rows =
    let (front, rest, is, first, more) = rows in
    let behind = AreRows-count reading (i + 1) count ns rs rest more in
    let all : length decimals ≡ length front + length rest = ap (λ (l : List Decimal). length l) is ∙ length-append front rest in
    omega (arith, behind, all, first.many)

-- the name of a number's row is there
pub AreRows-there : (reading : Reading) (count : ℕ) (names : List (List ℕ)) (rows : List (List (List ℕ))) (decimals : List Decimal) (i : ℕ) → AreRowsOf reading count names rows decimals → 0 < count → i < length decimals → i / count < length names
AreRows-there reading count names rows decimals i read some below =
    let numbers = AreRows-count reading 0 count names (in_order rows read.order) decimals read.read in
    div_below i count (length names) some (omega (arith, numbers, below))

-- one number more of an order
pub inside_more : (order : List ℕ) (k n : ℕ) → ((j : ℕ) → j < length order → get_or order j 0 < n) → k < n → (j : ℕ) → j < length (order ++ k ∷ []) → get_or (order ++ k ∷ []) j 0 < n
inside_more order k n inside there j below =
    elim (cases_lt j (length order)) [
      | inl before ↦ subst (λ m. m < n) (sym (get_or_append_left order (k ∷ []) 0 j before)) (inside j before)
      | inr past ↦
          let here : length order ≡ j = omega (arith, length-append order (k ∷ []), below, past) in
          subst (λ m. m < n) (sym (get_or_at order k [] 0 j here)) there
    ]
