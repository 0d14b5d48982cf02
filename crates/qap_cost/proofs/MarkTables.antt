-- Tables of marks: for each number whether it is in a list.
use Rattle.std.proofs.Common.{◌≡◌, ℕ, ◌+◌, ◌<◌, ◌≤◌, Bool, true, false, ◌||◌, List, length, get_or, set, take, replicate, refl, sym, ◌∙◌, ap, inl, inr, arith}
use Rattle.std.specs.Prelude.{nat_eq}
use Rattle.std.specs.List.{list_any}
use Rattle.std.proofs.lemmas.List.{get_or-replicate, get_or-set_same, get_or-set_other, length-set, take_all}
use Rattle.std.proofs.lemmas.List.Folds.{list_any_more}
use Rattle.std.proofs.lemmas.Bool.{cases_eq, ne_eqb, eq-eqb, or_right}

-- the table has for each number whether it is among the first n of a list
pub record Marks (numbers : List ℕ) (marks : List Bool) (n : ℕ) : Type 0 where
  pub size : length marks ≡ 256
  pub tells : (k : ℕ) → k < 256 → get_or marks k false ≡ list_any (nat_eq k) (take n numbers)

-- a table without marks is that of no number
pub Marks-none : (numbers : List ℕ) → Marks numbers (replicate 256 false) 0
Marks-none numbers = record { size = refl; tells = λ k h. get_or-replicate 256 k false false h }

or_false : (b c : Bool) → c ≡ false → (b || c) ≡ b
or_false true c e = refl
or_false false c e = e

-- with the next number's mark the table is that of one number more
pub Marks-more : (numbers : List ℕ) (marks : List Bool) (n l : ℕ) → Marks numbers marks n → n < length numbers → l ≡ get_or numbers n 0 → l < 256 → Marks numbers (set marks l true) (n + 1)
Marks-more numbers marks n l h below is small =
    let fits : l < length marks = omega (arith, h.size) in
    record {
      size = length-set marks l true ∙ h.size;
      tells = λ k in_range.
          let more = list_any_more (nat_eq k) numbers n 0 below in
          elim (cases_eq k l) [
            | inl same ↦ ap (λ j. get_or (set marks l true) j false) same ∙ get_or-set_same marks l true false fits
                ∙ sym (more ∙ or_right (list_any (nat_eq k) (take n numbers)) (nat_eq k (get_or numbers n 0)) (eq-eqb k (get_or numbers n 0) (same ∙ is)))
            | inr other ↦ get_or-set_other marks l k true false other ∙ h.tells k in_range
                ∙ sym (more ∙ or_false (list_any (nat_eq k) (take n numbers)) (nat_eq k (get_or numbers n 0)) (ne_eqb k (get_or numbers n 0) (λ e. other (e ∙ sym is))))
          ];
    }

-- once all numbers are marked, a number below 256 is marked if and only if the list has it
pub Marks-all : (numbers : List ℕ) (marks : List Bool) (n : ℕ) → Marks numbers marks n → length numbers ≤ n → (k : ℕ) → k < 256 → get_or marks k false ≡ list_any (nat_eq k) numbers
Marks-all numbers marks n h all k below = h.tells k below ∙ ap (list_any (nat_eq k)) (take_all n numbers all)
