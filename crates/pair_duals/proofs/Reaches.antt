-- What is known of the numbers of a form, as its calls ask for it.
use Rattle.std.proofs.Common.{◌≡◌, ℕ, ◌+◌, ◌*◌, ◌^◌, ◌<◌, ◌≤◌, [], true, false, Bool, arith, refl, sym, ◌∙◌, ap, ap₂, subst, to_z, of_z, List, length}
use Rattle.std.specs.Prelude.{ℤ, pos, ◌+ℤ◌, ◌*ℤ◌, unsigned_abs, FitsSigned}
use Rattle.std.specs.Int.{w128}
use Rattle.std.proofs.lemmas.Int.{ints, to_z-of_z, fits_signed_from_abs, unsigned_abs-mul}
use Rattle.std.proofs.lemmas.Nat.{mul-le}
use Rattle.qap_cost.specs.Range.{AllWithin}
use Rattle.pair_duals.specs.Limits.{Limits, AreEnough, reach}
use Rattle.pair_duals.specs.Range.{IsInReach, value_reach}
use Rattle.pair_duals.specs.Reduced.{Form, at, count_of, AreLeast, AreLeastOfRows, less_both}
use Rattle.pair_duals.proofs.Leasts.{least-within, line-between}
use Rattle.pair_duals.proofs.Products.{roomy}
use Rattle.pair_duals.proofs.Steps.{entry_in_reach}
use Rattle.pair_duals.proofs.Widths.{entry-within, reach-within}

-- a form with no rows
pub IsInReach-none : (m : Limits) (R : Form) → R.rows ≡ [] → R.columns ≡ [] → R.entries ≡ [] → R.value ≡ pos 0 → R.depth ≡ 0 → IsInReach m R
IsInReach-none m R er ec ee ez ed =
    let rows : length R.rows ≡ 0 = ap length er in
    let columns : length R.columns ≡ 0 = ap length ec in
    let entries : length R.entries ≡ 0 = ap length ee in
    let value : unsigned_abs R.value ≡ 0 = ap unsigned_abs ez in
    record {
      wide = columns ∙ sym rows;
      count = entries ∙ sym (ap₂ ◌*◌ rows rows);
      deep = omega (arith, rows, ed);
      entries = record { each = λ j h. absurd (omega (arith, entries)); apart = λ i j hi hj. absurd (omega (arith, entries)) };
      value = omega (arith, value);
    }

far_within : (m : Limits) (R : Form) → AreEnough m → IsInReach m R → reach m R.depth R.is_lined + (2 * m.pair + 2 * m.dual) ≤ m.reach
far_within m R enough h = reach-within m R.depth R.is_lined enough (omega (arith, h.deep))

-- the entries of a form are within the reach
pub entries-within : (m : Limits) (R : Form) → AreEnough m → IsInReach m R → AllWithin m.reach R.entries
entries-within m R enough h = record { each = λ j below. omega (arith, h.entries.each j below, far_within m R enough h) }

-- numbers within a limit are within a larger one
pub wider : (small large : ℕ) (xs : List ℤ) → small ≤ large → AllWithin small xs → AllWithin large xs
wider small large xs h range = record { each = λ j below. omega (arith, range.each j below, h) }

-- the least numbers of the columns are within the limit of sums
pub leasts-within : (m : Limits) (R : Form) (limit : ℕ) (u v : List ℤ) → AreEnough m → IsInReach m R → limit ≤ m.reach → AllWithin limit u → length u ≡ count_of R → AreLeast (count_of R) R.entries u v → AllWithin m.sum v
leasts-within m R limit u v enough h small range long least = record {
  each = λ c below.
      omega (arith, least-within (reach m R.depth R.is_lined) limit (count_of R) R.entries u v c h.count h.entries range long least (omega (arith, least.count)), far_within m R enough h, enough.sum, small);
}

-- an entry less both numbers is within the limit of sums
pub line_room : (m : Limits) (R : Form) (u v : List ℤ) → AreEnough m → IsInReach m R → AllWithin m.dual u → length u ≡ count_of R → AreLeast (count_of R) R.entries u v → (r c : ℕ) → r < count_of R → c < count_of R → unsigned_abs (less_both (count_of R) R.entries u v r c) ≤ m.sum
line_room m R u v enough h range long least r c hr hc =
    let between = line-between (reach m R.depth R.is_lined) m.dual (count_of R) R.entries u v r c h.count h.entries range long least hr hc in
    let far = far_within m R enough h in
    let sum = enough.sum in
    omega (arith, ints, between, far, sum)

-- the least numbers of the rows are within the reach
pub rows-within : (m : Limits) (R : Form) (u : List ℤ) → AreEnough m → IsInReach m R → AreLeastOfRows (count_of R) R.entries u → AllWithin m.reach u
rows-within m R u enough h least = record {
  each = λ r below.
      let hr : r < count_of R = omega (arith, least.count) in
      let at_c = (least.least r hr).reached in
      let e = entry-within (reach m R.depth R.is_lined) (count_of R) R.entries r at_c.0 h.count h.entries hr at_c.1 in
      let far = far_within m R enough h in
      let is = at_c.2 in
      omega (arith, ints, e, far, is);
}

-- the value and two sums fit 128 bits
at_most : (z : ℤ) (depth : ℕ) (lined : Bool) → depth ≤ 256 → unsigned_abs z ≤ value_reach depth lined → unsigned_abs z ≤ 514 * 10 ^ 34
at_most z depth true small v = omega (arith, small, v)
at_most z depth false small v = omega (arith, small, v)

value_most : (m : Limits) (R : Form) → AreEnough m → IsInReach m R → unsigned_abs R.value ≤ 514 * 10 ^ 34
value_most m R enough h = at_most R.value R.depth R.is_lined (omega (arith, h.deep, enough.small)) h.value

-- two sums, and the value with both, fit into 128 bits
pub sums_fit : (m : Limits) (R : Form) (a b : ℤ) (k l : ℕ) → AreEnough m → IsInReach m R → k ≤ 256 → l ≤ 256 → unsigned_abs a ≤ k * m.sum → unsigned_abs b ≤ l * m.sum
    → FitsSigned w128 (a +ℤ b) × FitsSigned w128 (R.value +ℤ (a +ℤ b))
sums_fit m R a b k l enough h hk hl ha hb =
    let wide = (roomy m enough).wide in
    let ka : k * m.sum ≤ 256 * m.sum = mul-le _ _ _ _ hk (omega arith) in
    let lb : l * m.sum ≤ 256 * m.sum = mul-le _ _ _ _ hl (omega arith) in
    let v = value_most m R enough h in (
      fits_signed_from_abs w128 (a +ℤ b) (omega (arith, ints, ha, hb, ka, lb, wide)),
      fits_signed_from_abs w128 (R.value +ℤ (a +ℤ b)) (omega (arith, ints, ha, hb, ka, lb, wide, v)),
    )

-- the value and an entry together fit into 128 bits
pub next_fits : (m : Limits) (R : Form) (r c : ℕ) (e : ℤ) → AreEnough m → IsInReach m R → r < count_of R → c < count_of R → e ≡ at R r c → FitsSigned w128 (R.value +ℤ e)
next_fits m R r c e enough h hr hc is =
    let v = value_most m R enough h in
    let far = entry_in_reach m R r c enough h hr hc in
    let wide = (roomy m enough).wide in
    let sum = enough.sum in
    fits_signed_from_abs w128 (R.value +ℤ e) (omega (arith, ints, v, far, wide, sum, is))

fits_of : (x : ℤ) → unsigned_abs x ≤ 514 * 10 ^ 34 → FitsSigned w128 x
fits_of x h = fits_signed_from_abs w128 x (omega (arith, h))

reads : (x : ℤ) → unsigned_abs x ≤ 514 * 10 ^ 34 → to_z w128 (of_z w128 x) ≡ x
reads x h = to_z-of_z w128 x (fits_of x h)

-- the value and an entry, as they are computed
pub next_read : (m : Limits) (R : Form) (r c : ℕ) (x y : ℤ) → AreEnough m → IsInReach m R → r < count_of R → c < count_of R → x ≡ R.value → y ≡ at R r c
    → FitsSigned w128 (to_z w128 (of_z w128 x) +ℤ to_z w128 (of_z w128 y)) × (to_z w128 (of_z w128 (to_z w128 (of_z w128 x) +ℤ to_z w128 (of_z w128 y))) ≡ R.value +ℤ at R r c)
next_read m R r c x y enough h hr hc ex ey =
    let v = value_most m R enough h in
    let far = entry_in_reach m R r c enough h hr hc in
    let wide = (roomy m enough).wide in
    let sum = enough.sum in
    let x_small : unsigned_abs x ≤ 514 * 10 ^ 34 = omega (arith, v, ap unsigned_abs ex) in
    let y_small : unsigned_abs y ≤ 514 * 10 ^ 34 = omega (arith, far, wide, sum, ap unsigned_abs ey) in
    let is : to_z w128 (of_z w128 x) +ℤ to_z w128 (of_z w128 y) ≡ R.value +ℤ at R r c = ap₂ ◌+ℤ◌ (reads x x_small ∙ ex) (reads y y_small ∙ ey) in
    let fits = next_fits m R r c (at R r c) enough h hr hc refl in (
      subst (FitsSigned w128) (sym is) fits,
      ap (λ z. to_z w128 (of_z w128 z)) is ∙ to_z-of_z w128 (R.value +ℤ at R r c) fits,
    )

-- the value and two sums, as they are computed
pub sums_read : (m : Limits) (R : Form) (x a b : ℤ) (k l : ℕ) → AreEnough m → IsInReach m R → x ≡ R.value → k ≤ 256 → l ≤ 256 → unsigned_abs a ≤ k * m.sum → unsigned_abs b ≤ l * m.sum
    → FitsSigned w128 (to_z w128 (of_z w128 a) +ℤ to_z w128 (of_z w128 b))
    × FitsSigned w128 (to_z w128 (of_z w128 x) +ℤ to_z w128 (of_z w128 (to_z w128 (of_z w128 a) +ℤ to_z w128 (of_z w128 b))))
    × (to_z w128 (of_z w128 (to_z w128 (of_z w128 x) +ℤ to_z w128 (of_z w128 (to_z w128 (of_z w128 a) +ℤ to_z w128 (of_z w128 b))))) ≡ R.value +ℤ (a +ℤ b))
sums_read m R x a b k l enough h ex hk hl ha hb =
    let wide = (roomy m enough).wide in
    let ka : k * m.sum ≤ 256 * m.sum = mul-le _ _ _ _ hk (omega arith) in
    let lb : l * m.sum ≤ 256 * m.sum = mul-le _ _ _ _ hl (omega arith) in
    let v = value_most m R enough h in
    let fits = sums_fit m R a b k l enough h hk hl ha hb in
    let sum : to_z w128 (of_z w128 a) +ℤ to_z w128 (of_z w128 b) ≡ a +ℤ b = ap₂ ◌+ℤ◌ (reads a (omega (arith, ha, ka, wide))) (reads b (omega (arith, hb, lb, wide))) in
    let inner : to_z w128 (of_z w128 (to_z w128 (of_z w128 a) +ℤ to_z w128 (of_z w128 b))) ≡ a +ℤ b = ap (λ z. to_z w128 (of_z w128 z)) sum ∙ to_z-of_z w128 (a +ℤ b) fits.0 in
    let is : to_z w128 (of_z w128 x) +ℤ to_z w128 (of_z w128 (to_z w128 (of_z w128 a) +ℤ to_z w128 (of_z w128 b))) ≡ R.value +ℤ (a +ℤ b) =
    ap₂ ◌+ℤ◌ (reads x (omega (arith, v, ap unsigned_abs ex)) ∙ ex) inner in (
      subst (FitsSigned w128) (sym sum) fits.0,
      subst (FitsSigned w128) (sym is) fits.1,
      ap (λ z. to_z w128 (of_z w128 z)) is ∙ to_z-of_z w128 (R.value +ℤ (a +ℤ b)) fits.1,
    )

-- the scaled fixed cost, as it is computed
pub fixed_read : (s : ℕ) (x y : ℤ) → s ≤ 2 ^ 20 → x ≡ pos s → unsigned_abs y ≤ 65536 * 10 ^ 18
    → FitsSigned w128 (to_z w128 (of_z w128 x) *ℤ to_z w128 (of_z w128 y)) × (to_z w128 (of_z w128 (to_z w128 (of_z w128 x) *ℤ to_z w128 (of_z w128 y))) ≡ pos s *ℤ y) × (unsigned_abs (pos s *ℤ y) ≤ 10 ^ 34)
fixed_read s x y small ex hy =
    let size = unsigned_abs-mul (pos s) y in
    let product : s * unsigned_abs y ≤ 2 ^ 20 * (65536 * 10 ^ 18) = mul-le _ _ _ _ small hy in
    let is : to_z w128 (of_z w128 x) *ℤ to_z w128 (of_z w128 y) ≡ pos s *ℤ y = ap₂ ◌*ℤ◌ (reads x (omega (arith, small, ap unsigned_abs ex)) ∙ ex) (reads y (omega (arith, hy))) in
    let bound : unsigned_abs (pos s *ℤ y) ≤ 10 ^ 34 = omega (arith, size, product) in
    let fits = fits_of (pos s *ℤ y) (omega (arith, bound)) in (
      subst (FitsSigned w128) (sym is) fits,
      ap (λ z. to_z w128 (of_z w128 z)) is ∙ to_z-of_z w128 (pos s *ℤ y) fits,
      bound,
    )
