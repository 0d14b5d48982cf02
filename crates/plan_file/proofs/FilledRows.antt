-- Matrices that are filled by rows, one item more.
use Rattle.std.proofs.Common.{◌≡◌, ◌∙◌, ℕ, ◌+◌, ◌*◌, ◌/◌, ◌%◌, ◌<◌, ◌≤◌, List, [], ◌∷◌, ◌++◌, length, length-append, inl, inr, subst, get_or, ap, sym, arith}
use Rattle.std.proofs.Math.Nat.{mul_comm}
use Rattle.std.proofs.lemmas.Nat.{div-mul-add, div_below, mod-mul-add, mod_below, mul-add-lt}
use Rattle.std.proofs.lemmas.Bool.{cases_lt}
use Rattle.std.proofs.lemmas.List.{get_or_append_left, get_or_at}
use Rattle.plan_file.specs.Filled.{AreFilled}

-- no item
pub AreFilled-none : {A : Type 0} (Is : ℕ → ℕ → A → Type 0) (none : A) (columns : ℕ) (xs : List A) → xs ≡ [] → AreFilled Is none columns 0 xs
AreFilled-none Is none columns xs empty = record {
  many = ap length empty;
  each = λ q below. absurd (omega arith);
}

-- one item more
pub AreFilled-more : {A : Type 0} (Is : ℕ → ℕ → A → Type 0) (none : A) (columns count : ℕ) (xs newer : List A) (x : A) → AreFilled Is none columns count xs → Is (count / columns) (count % columns) x
    → newer ≡ xs ++ x ∷ [] → AreFilled Is none columns (count + 1) newer
AreFilled-more Is none columns count xs newer x so_far is pushed =
    record {
      many = omega (arith, ap length pushed, length-append xs (x ∷ []), so_far.many);
      each = λ q below.
          elim (cases_lt q count) [
            | inl inside ↦
                let before : get_or newer q none ≡ get_or xs q none = ap (λ l. get_or l q none) pushed ∙ get_or_append_left xs (x ∷ []) none q (omega (arith, so_far.many)) in
                subst (Is (q / columns) (q % columns)) (sym before) (so_far.each q inside)
            | inr past ↦
                let here : count ≡ q = omega arith in
                let last : get_or newer q none ≡ x = ap (λ l. get_or l q none) pushed ∙ get_or_at xs x [] none q (omega (arith, so_far.many)) in
                subst (Is (q / columns) (q % columns)) (sym last) (subst (λ p. Is (p / columns) (p % columns) x) here is)
          ];
    }

-- row i, column k
pub filled_at : {A : Type 0} (Is : ℕ → ℕ → A → Type 0) (none : A) (columns rows : ℕ) (xs : List A) (i k : ℕ) → AreFilled Is none columns (rows * columns) xs → i < rows → k < columns → Is i k (get_or xs (i * columns + k) none)
filled_at Is none columns rows xs i k filled row column =
    let x = get_or xs (i * columns + k) none in
    let inside : i * columns + k < rows * columns = omega (arith, mul-add-lt i columns k rows row column, mul_comm columns rows) in
    subst (λ r. Is r k x) (div-mul-add i columns k column)
    (subst (λ c. Is ((i * columns + k) / columns) c x) (mod-mul-add i columns k column) (filled.each (i * columns + k) inside))

-- a matrix with an item has a column
has_column : (q columns rows : ℕ) → q < rows * columns → 0 < columns
has_column q columns rows below =
    elim (cases_lt 0 columns) [
      | inl some ↦ some
      | inr none ↦
          let empty : columns ≡ 0 = omega arith in
          absurd (omega (arith, subst (λ c. q < rows * c) empty below))
    ]

-- the row of an item is one of them
pub row_inside : (q columns rows : ℕ) → q < rows * columns → q / columns < rows
row_inside q columns rows below = div_below q columns rows (has_column q columns rows below) below

-- and so is its column
pub column_inside : (q columns rows : ℕ) → q < rows * columns → q % columns < columns
column_inside q columns rows below = mod_below q columns (has_column q columns rows below)
