-- The rows that list pair duals.
use Rattle.std.proofs.Common.{◌≡◌, ℕ, zero, suc, ◌+◌, ◌-◌, ◌*◌, ◌/◌, ◌%◌, ◌^◌, ◌<◌, ◌≤◌, List, [], ◌∷◌, ◌++◌, drop, append_assoc, length, get_or, ℤ, pos, refl, sym, ◌∙◌, ap, ap₂, subst, inl, inr, arith}
use Rattle.std.specs.Prelude.{nat_lt, unsigned_abs}
use Rattle.std.proofs.lemmas.Bool.{cases_lt, cond-true, cond-false, lt-ltb, le-ltb}
use Rattle.std.proofs.lemmas.List.Elements.{All-from_get_or}
use Rattle.std.proofs.lemmas.List.FromFn.{get_or-map-range_with_len, length-map-range_with_len}
use Rattle.std.proofs.lemmas.Nat.{div-mul-add, mod-mul-add}
use Rattle.std.proofs.Math.Nat.{div-lt_iff_lt-mul, mod-lt}
use Rattle.qap_cost.specs.Placement.{Placement}
use Rattle.qap_cost.specs.Range.{AllWithin}
use Rattle.pair_duals.specs.PairDuals.{Duals, AreDuals, AreOf, alpha_of, beta_of, cube, in_layers}
use Rattle.pair_duals.specs.Reduced.{past}
use Rattle.pair_duals.proofs.Values.{place_in_square}
use Rattle.proof_tree.specs.Shape.{AreLimited, ArePairRows}
use Rattle.qap_lines.specs.LineText.{numbers_text}
use Rattle.proof_tree.specs.Text.{rows_text}
use Rattle.proof_tree.specs.Valid.{AreListed}
use Rattle.subtree_search.specs.Clean.{clean}
use Rattle.subtree_search.specs.Premises.{limits_of_64}
use Rattle.subtree_search.specs.Rows.{dual_in_row, first_of_row, row_at, rows_of}
use Rattle.subtree_search.proofs.Cleaning.{alpha-kept, alpha-none, beta-kept, beta-none, past-other, past-within, place-within}

-- ---- a row

positive_from : (m s : ℕ) → s < m * m → 0 < m
positive_from zero s h = absurd (omega (arith, h))
positive_from (suc m) s h = omega arith

row_place : (m i k : ℕ) → i < m → k < m → i * m + k < m * m
row_place m i k hi hk = place_in_square m i k hi hk

-- the row of facility number i at location number k
row-is : (D : Duals) (i k : ℕ) → i < length D.facilities → k < length D.facilities → get_or (rows_of D).rows (i * length D.facilities + k) [] ≡ first_of_row D i k (2 * (length D.facilities - 1))
row-is D i k hi hk =
    let m = length D.facilities in
    get_or-map-range_with_len (row_at D) 0 (m * m) (i * m + k) (i * m + k) [] (row_place m i k hi hk) (omega arith)
    ∙ ap₂ (λ (a b : ℕ). first_of_row D a b (2 * (m - 1))) (div-mul-add i m k hk) (mod-mul-add i m k hk)

dual-is : (D : Duals) (i k t : ℕ) → i < length D.facilities → k < length D.facilities → t < 2 * (length D.facilities - 1) → get_or (get_or (rows_of D).rows (i * length D.facilities + k) []) t (pos 0) ≡ dual_in_row D i k t
dual-is D i k t hi hk ht =
    ap (λ (row : List ℤ). get_or row t (pos 0)) (row-is D i k hi hk) ∙ get_or-map-range_with_len (dual_in_row D i k) 0 (2 * (length D.facilities - 1)) t t (pos 0) ht (omega arith)

alpha-first : (D : Duals) (i k t : ℕ) → t + 1 < length D.facilities → dual_in_row D i k t ≡ alpha_of D i k (past i t)
alpha-first D i k t ht =
    let m = length D.facilities in
    cond-true (nat_lt t (m - 1)) (alpha_of D i k (past i t)) (beta_of D i k (past k (t - (m - 1)))) (lt-ltb t (m - 1) (omega (arith, ht)))

beta-second : (D : Duals) (i k t : ℕ) → dual_in_row D i k ((length D.facilities - 1) + t) ≡ beta_of D i k (past k t)
beta-second D i k t =
    let m = length D.facilities in
    let s = (m - 1) + t in
    let back : s - (m - 1) ≡ t = omega arith in
    cond-false (nat_lt s (m - 1)) (alpha_of D i k (past i s)) (beta_of D i k (past k (s - (m - 1)))) (le-ltb s (m - 1) (omega arith)) ∙ ap (λ (p : ℕ). beta_of D i k (past k p)) back

-- they list the pair duals without those that mean nothing
pub AreListed-clean : (y : Placement) (D : Duals) → AreOf y D → AreListed y (rows_of D) (clean D)
AreListed-clean y D of =
    let m = length D.facilities in
    record {
      of = record { size = of.size; facilities = of.facilities; locations = of.locations };
      scale = refl;
      alpha_count = length-map-range_with_len _ 0 (cube m);
      beta_count = length-map-range_with_len _ 0 (cube m);
      alpha = λ i k t hi hk ht.
          alpha-kept D i k (past i t) hi hk (past-within i t m ht) (λ e. past-other i t (sym e)) ∙ sym (alpha-first D i k t ht) ∙ sym (dual-is D i k t hi hk (omega (arith, ht)));
      beta = λ i k t hi hk ht.
          beta-kept D i k (past k t) hi hk (past-within k t m ht) (λ e. past-other k t (sym e)) ∙ sym (beta-second D i k t) ∙ sym (dual-is D i k ((m - 1) + t) hi hk (omega (arith, ht)));
      alpha_itself = alpha-none D;
      beta_itself = beta-none D;
    }

-- ---- their range

layer-within : (limit m : ℕ) (xs : List ℤ) (j i k : ℕ) → length xs ≡ cube m → AllWithin limit xs → j < m → i < m → k < m → unsigned_abs (in_layers m xs j i k) ≤ limit
layer-within limit m xs j i k count range hj hi hk = range.each ((j * m + i) * m + k) (omega (arith, count, place-within m j i k hj hi hk))

dual-within : (D : Duals) (i k t : ℕ) → AreDuals limits_of_64 D → i < length D.facilities → k < length D.facilities → t < 2 * (length D.facilities - 1) → unsigned_abs (dual_in_row D i k t) ≤ 2 ^ 45
dual-within D i k t duals hi hk ht =
    let m = length D.facilities in
    elim (cases_lt t (m - 1)) [
      | inl less ↦
          let is = alpha-first D i k t (omega (arith, less)) in
          subst (λ z. unsigned_abs z ≤ 2 ^ 45) (sym is) (layer-within (2 ^ 45) m D.alpha (past i t) i k duals.alpha_count duals.alpha_range (past-within i t m (omega (arith, less))) hi hk)
      | inr more ↦
          let s = t - (m - 1) in
          let at : (m - 1) + s ≡ t = omega (arith, more) in
          let is : dual_in_row D i k t ≡ beta_of D i k (past k s) = ap (dual_in_row D i k) (sym at) ∙ beta-second D i k s in
          subst (λ z. unsigned_abs z ≤ 2 ^ 45) (sym is) (layer-within (2 ^ 45) m D.beta (past k s) i k duals.beta_count duals.beta_range (past-within k s m (omega (arith, more, ht))) hi hk)
    ]

row-limited : (D : Duals) (i k : ℕ) → AreDuals limits_of_64 D → i < length D.facilities → k < length D.facilities → AreLimited (2 * (length D.facilities - 1)) (first_of_row D i k (2 * (length D.facilities - 1)))
row-limited D i k duals hi hk =
    let n = 2 * (length D.facilities - 1) in
    let count = length-map-range_with_len (dual_in_row D i k) 0 n in
    record {
      count = count;
      limited = record {
        each = λ t below.
            let ht : t < n = omega (arith, below, count) in
            let is = get_or-map-range_with_len (dual_in_row D i k) 0 n t t (pos 0) ht (omega arith) in
            let small = dual-within D i k t duals hi hk ht in
            subst (λ z. unsigned_abs z ≤ 10 ^ 24) (sym is) (omega (arith, small));
      };
    }

-- the rows of pair duals are such as a text lists
pub ArePairRows-of : (D : Duals) → AreDuals limits_of_64 D → ArePairRows (length D.facilities) (rows_of D)
ArePairRows-of D duals =
    let m = length D.facilities in
    let count = length-map-range_with_len (row_at D) 0 (m * m) in
    record {
      positive = duals.positive;
      scale = duals.scale;
      count = count;
      each = All-from_get_or (AreLimited (2 * (m - 1))) (rows_of D).rows [] (λ s below.
          let hs : s < m * m = omega (arith, below, count) in
          let is = get_or-map-range_with_len (row_at D) 0 (m * m) s s [] hs (omega arith) in
          let some : 0 < m = positive_from m s hs in
          subst (AreLimited (2 * (m - 1))) (sym is) (row-limited D (s / m) (s % m) duals ((div-lt_iff_lt-mul some).1 hs) (mod-lt s some)));
    }

-- ---- their text

-- the text of one row more
pub rows_text-push : (rows : List (List ℤ)) (row : List ℤ) → rows_text (rows ++ row ∷ []) ≡ rows_text rows ++ (drop 1 (numbers_text row) ++ 10 ∷ [])
rows_text-push [] row = refl
rows_text-push (first ∷ rows) row =
    ap (λ (l : List ℕ). drop 1 (numbers_text first) ++ 10 ∷ l) (rows_text-push rows row) ∙ sym (append_assoc (drop 1 (numbers_text first)) (10 ∷ rows_text rows) (drop 1 (numbers_text row) ++ 10 ∷ []))
