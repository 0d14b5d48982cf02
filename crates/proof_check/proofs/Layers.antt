-- Pair duals in memory, by the rows that list them.
use Rattle.std.proofs.Common.{◌≡◌, ℕ, zero, suc, ◌+◌, ◌-◌, ◌*◌, ◌/◌, ◌%◌, ◌<◌, ◌≤◌, ◌^◌, cond, ◌++◌, List, [], ◌∷◌, length, get_or, ℤ, pos, unsigned_abs, sym, ◌∙◌, ap, subst, inl, inr, arith, nat_eq}
use Rattle.std.specs.Prelude.{All}
use Rattle.std.specs.Global.{Vec}
use Rattle.std.specs.Prelude.{nat_lt}
use Rattle.std.proofs.lemmas.Bool.{cases_eq, cases_lt, cond-true, cond-false, eq-eqb, ne_eqb, lt-ltb, le-ltb}
use Rattle.std.proofs.lemmas.List.{get_or-map, get_or_append_left, get_or_push, length-map, length_push}
use Rattle.std.proofs.Math.Nat.{add-mul-div_right, add-mul-mod_self_right, div-eq_of_lt, div-lt_iff_lt-mul, mod-eq_of_lt, mod-lt}
use Rattle.pair_duals.specs.PairDuals.{cube}
use Rattle.pair_duals.proofs.Values.{place_in_layers, place_in_square}
use Rattle.proof_tree.specs.Shape.{AreLimited}
use Rattle.proof_check.specs.Rows.{IsFilled, IsLayers, lists_of, number_of}

-- how many numbers a row has
pub row_count : (rows : List (Vec ℤ)) (width k : ℕ) (d : Vec ℤ) → All (AreLimited width) (lists_of rows) → k < length rows → length (get_or rows k d).items ≡ width
row_count rows width k d all inside =
    let here = all k [] (omega (arith, length-map rows (λ row. row.items), inside)) in
    ap length (sym (get_or-map (λ row. row.items) rows k d [] inside)) ∙ here.count

none_of : (k m a : ℕ) → k < m → k / m + a ≡ a
none_of k m a h = let none : k / m ≡ 0 = div-eq_of_lt h in let left : 0 + a ≡ a = omega arith in ap (λ z. z + a) none ∙ left

place_parts : (m j i k : ℕ) → i < m → k < m → ((((j * m + i) * m + k) / m / m) ≡ j) × ((((j * m + i) * m + k) / m % m) ≡ i) × ((((j * m + i) * m + k) % m) ≡ k)
place_parts m j i k hi hk =
    let some : 0 < m = omega (arith, hi) in
    let turned : (j * m + i) * m + k ≡ k + (j * m + i) * m = omega arith in
    let low : ((j * m + i) * m + k) / m ≡ j * m + i = ap (λ p. p / m) turned ∙ add-mul-div_right k (j * m + i) some ∙ none_of k m (j * m + i) hk in
    let turned' : j * m + i ≡ i + j * m = omega arith in
    let high : (j * m + i) / m ≡ j = ap (λ p. p / m) turned' ∙ add-mul-div_right i j some ∙ none_of i m j hi in
    let middle : (j * m + i) % m ≡ i = ap (λ p. p % m) turned' ∙ add-mul-mod_self_right i j m ∙ mod-eq_of_lt hi in
    (ap (λ p. p / m) low ∙ high, ap (λ p. p % m) low ∙ middle, ap (λ p. p % m) turned ∙ add-mul-mod_self_right k (j * m + i) m ∙ mod-eq_of_lt hk)

-- no number yet
pub IsFilled-none : (m : ℕ) (f : ℕ → ℕ → ℕ → ℤ) (xs : List ℤ) → xs ≡ [] → IsFilled m f 0 xs
IsFilled-none m f xs e = record { counted = ap length e; each = λ place below. absurd (omega arith) }

-- one number more
pub IsFilled-more : (m : ℕ) (f : ℕ → ℕ → ℕ → ℤ) (count : ℕ) (xs : List ℤ) (x : ℤ) → IsFilled m f count xs → x ≡ f (count / m / m) (count / m % m) (count % m) → IsFilled m f (count + 1) (xs ++ x ∷ [])
IsFilled-more m f count xs x h is = record {
  counted = omega (arith, length_push xs x, h.counted);
  each = λ place below.
      elim (cases_eq place count) [
        | inl same ↦
            get_or_push xs x (pos 0) place (h.counted ∙ sym same)
            ∙ is ∙ sym (ap (λ p. f (p / m / m) (p / m % m) (p % m)) same)
        | inr other ↦ get_or_append_left xs (x ∷ []) (pos 0) place (omega (arith, h.counted, other, below)) ∙ h.each place (omega (arith, other, below))
      ];
}

-- once all numbers are there, the layers are
pub IsLayers-filled : (m : ℕ) (f : ℕ → ℕ → ℕ → ℤ) (count : ℕ) (xs : List ℤ) → count ≡ cube m → IsFilled m f count xs → IsLayers m f xs
IsLayers-filled m f count xs all h = record {
  count = h.counted ∙ all;
  each = λ j i k hj hi hk.
      let parts = place_parts m j i k hi hk in
      h.each ((j * m + i) * m + k) (omega (arith, all, place_in_layers m j i k hj hi hk))
      ∙ ap (λ a. f a (((j * m + i) * m + k) / m % m) (((j * m + i) * m + k) % m)) parts.0 ∙ ap (λ b. f j b (((j * m + i) * m + k) % m)) parts.1 ∙ ap (λ d. f j i d) parts.2;
}

-- where there is a place, m is positive
pub positive : (m place : ℕ) → place < (m * m) * m → 0 < m
positive zero place below = absurd (omega (arith, below))
positive (suc m) place below = omega arith

-- the layer of a place
pub layer_within : (m place : ℕ) → place < (m * m) * m → place / m / m < m
layer_within m place below =
    let some : 0 < m = positive m place below in
    let square : place / m < m * m = (div-lt_iff_lt-mul {k = m} {x = place} {y = m * m} some).1 below in
    (div-lt_iff_lt-mul {k = m} {x = place / m} {y = m} some).1 square

-- the cell of a place
pub row_within : (m place : ℕ) → place < (m * m) * m → (place / m % m) * m + place % m < m * m
row_within m place below =
    let some : 0 < m = positive m place below in
    place_in_square m (place / m % m) (place % m) (mod-lt (place / m) some) (mod-lt place some)

-- a number for another in a row, or 0, lies within -10^24 to 10^24
pub number_of-limited : (rows : List (List ℤ)) (m own other row start : ℕ) → All (AreLimited (2 * (m - 1))) rows → row < length rows → own < m → other < m → start ≤ m - 1 → unsigned_abs (number_of rows own other row start) ≤ 10 ^ 24
number_of-limited rows m own other row start all inside own_in other_in start_in =
    let here = all row [] inside in
    let place = cond (nat_lt other own) other (other - 1) in
    let number = get_or (get_or rows row []) (start + place) (pos 0) in
    elim (cases_eq other own) [
      | inl same ↦ subst (λ (z : ℤ). unsigned_abs z ≤ 10 ^ 24) (sym (cond-true (nat_eq other own) (pos 0) number (eq-eqb other own same))) (omega arith)
      | inr differs ↦
          let few : place + 1 < m =
          elim (cases_lt other own) [
            | inl less ↦ let is = cond-true (nat_lt other own) other (other - 1) (lt-ltb other own less) in omega (arith, is, less, own_in)
            | inr more ↦ let is = cond-false (nat_lt other own) other (other - 1) (le-ltb other own more) in omega (arith, is, more, differs, other_in)
          ] in
          subst (λ (z : ℤ). unsigned_abs z ≤ 10 ^ 24) (sym (cond-false (nat_eq other own) (pos 0) number (ne_eqb other own differs))) (here.limited.each (start + place) (omega (arith, here.count, few, start_in)))
    ]
