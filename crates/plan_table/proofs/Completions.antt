-- Rows that are completed, one more at the end.
use Rattle.std.proofs.Common.{◌≡◌, ◌∙◌, ℕ, ℤ, Bool, true, false, refl, ◌+◌, ◌<◌, List, [], ◌∷◌, ◌++◌, length, map, get_or, ap, subst, sym, inl, inr, arith}
use Rattle.std.specs.Prelude.{not}
use Rattle.std.proofs.lemmas.Bool.{cases_lt}
use Rattle.std.proofs.lemmas.List.{get_or_append_left, get_or_at, length-map, length_push, map-append}
use Rattle.plan_table.specs.Halves.{AreCompleted, AreMirrored, AreReadFrom, IsCompleted, IsFilledIn, IsSymmetric}
use Rattle.plan_table.specs.Table.{AreNumbersOf, IsNumbered}
use Rattle.plan_table.specs.declared.rules.Rules.{Rules}
use Rattle.plan_table.specs.Trips.{row_at}

-- one row more
pub completed_more : {A : Type 0} (f : A → List (List ℕ)) (names : List (List ℕ)) (rows : List (List (List ℕ))) (filled newer : List A) (last : A) (i : ℕ) → length filled ≡ i
    → ((k : ℕ) → k < i → IsCompleted names rows (row_at rows k) (row_at (map f filled) k)) → IsCompleted names rows (row_at rows i) (f last) → newer ≡ filled ++ last ∷ []
    → (k : ℕ) → k < i + 1 → IsCompleted names rows (row_at rows k) (row_at (map f newer) k)
completed_more f names rows filled newer last i many before here pushed k below =
    let all = ap (map f) pushed ∙ map-append f filled (last ∷ []) in
    let long = length-map filled f ∙ many in
    subst (λ (l : List (List (List ℕ))). IsCompleted names rows (row_at rows k) (row_at l k)) (sym all) (elim (cases_lt k i) [
      | inl earlier ↦
          subst (IsCompleted names rows (row_at rows k)) (sym (get_or_append_left (map f filled) (f last ∷ []) [] k (omega (arith, long, earlier)))) (before k earlier)
      | inr past ↦
          let this : i ≡ k = omega (arith, below, past) in
          subst (IsCompleted names rows (row_at rows k)) (sym (get_or_at (map f filled) (f last) [] [] k (long ∙ this))) (subst (λ j. IsCompleted names rows (row_at rows j) (f last)) this here)
    ])

-- one field more of a row
pub filled_more : (names : List (List ℕ)) (rows : List (List (List ℕ))) (row filled newer : List (List ℕ)) (word : List ℕ) (i : ℕ) → length filled ≡ i
    → ((f : ℕ) → f < i → IsFilledIn names rows row f (get_or filled f [])) → IsFilledIn names rows row i word → newer ≡ filled ++ word ∷ []
    → (length newer ≡ i + 1) × ((f : ℕ) → f < i + 1 → IsFilledIn names rows row f (get_or newer f []))
filled_more names rows row filled newer word i many before here pushed = (
  ap (λ (l : List (List ℕ)). length l) pushed ∙ length_push filled word ∙ ap (λ k. k + 1) many,
  λ f below.
      subst (λ (l : List (List ℕ)). IsFilledIn names rows row f (get_or l f [])) (sym pushed) (elim (cases_lt f i) [
        | inl earlier ↦
            subst (IsFilledIn names rows row f) (sym (get_or_append_left filled (word ∷ []) [] f (omega (arith, many, earlier)))) (before f earlier)
        | inr past ↦
            let this : i ≡ f = omega (arith, below, past) in
            subst (IsFilledIn names rows row f) (sym (get_or_at filled word [] [] f (many ∙ this))) (subst (λ j. IsFilledIn names rows row j word) this here)
      ]),
)

-- the numbers of rows that are read as they stand
pub numbered_plain : (rules : Rules) (corner : List ℕ) (rows : List (List (List ℕ))) (names : List (List ℕ)) (scale : ℕ) (entries : List ℤ) → rules.is_symmetric ≡ false
    → AreNumbersOf rules corner rows names scale entries → IsNumbered rules corner rows names scale entries
numbered_plain rules corner rows names scale entries off numbers = record {
  filled = rows;
  completed = subst (λ b. AreReadFrom b names rows rows) (sym off) refl;
  numbers = numbers;
  halves = subst (λ b. IsSymmetric b (length names) entries) (sym off) tt;
}

-- the numbers of rows that were completed
pub numbered_mirrored : (rules : Rules) (corner : List ℕ) (rows filled : List (List (List ℕ))) (names : List (List ℕ)) (n scale : ℕ) (entries lent : List ℤ) → rules.is_symmetric ≡ true → AreCompleted names rows filled
    → AreNumbersOf rules corner filled names scale entries → n ≡ length names → lent ≡ entries → AreMirrored n lent → IsNumbered rules corner rows names scale entries
numbered_mirrored rules corner rows filled names n scale entries lent on completed numbers many same mirrored = record {
  filled = filled;
  completed = subst (λ b. AreReadFrom b names rows filled) (sym on) completed;
  numbers = numbers;
  halves = subst (λ b. IsSymmetric b (length names) entries) (sym on) (subst (λ m. AreMirrored m entries) many (subst (λ (l : List ℤ). AreMirrored n l) same mirrored));
}

-- what is not false is true
pub is_true : (b : Bool) → not b ≡ false → b ≡ true
is_true true off = refl
is_true false off = sym off
