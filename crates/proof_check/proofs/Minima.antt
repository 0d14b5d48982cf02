-- The row and column minima of a form, and its value with them, in 128 bits.
use Rattle.std.proofs.Common.{◌≡◌, ℕ, ◌*◌, ◌^◌, ◌≤◌, ◌∷◌, [], Bool, true, false, List, map, ℤ, unsigned_abs, to_z, of_z, lit≤, lit<, refl, ◌∙◌, ap, ap₂, arith}
use Rattle.std.specs.Prelude.{FitsSigned, ◌+ℤ◌, ◌<ℤ◌, ◌≤ℤ◌}
use Rattle.std.specs.Int.{w128}
use Rattle.std.proofs.lemmas.Int.{clamps, fits_signed_from_abs, ints, to_z-of_z}
use Rattle.qap_cost.specs.Matrix.{total}
use Rattle.qap_cost.specs.Range.{AllWithin}
use Rattle.pair_duals.specs.Limits.{AreEnough}
use Rattle.pair_duals.specs.Range.{IsInReach, value_reach}
use Rattle.pair_duals.specs.Reduced.{Form, AreLeast, AreLeastOfRows, count_of}
use Rattle.pair_duals.proofs.Reaches.{leasts-within, rows-within, sums_read, wider}
use Rattle.proof_check.specs.Judge.{IsValueWithMinima, wide}

pub enough : AreEnough wide
enough = record { pair = lit≤ tt; start = lit≤ tt; reach = lit≤ tt; sum = lit≤ tt; value = lit≤ tt; positive = lit< tt; small = lit≤ tt }

-- a form has at most 256 rows
pub few_rows : (R : Form) → IsInReach wide R → count_of R ≤ 256
few_rows R h = omega (arith, h.deep)

-- the minima are within the limit of sums
pub rows_within : (R : Form) (u : List ℤ) → IsInReach wide R → AreLeastOfRows (count_of R) R.entries u → AllWithin (10 ^ 30) u
rows_within R u h rows = wider (10 ^ 29) (10 ^ 30) u (lit≤ tt) (rows-within wide R u enough h rows)

pub columns_within : (R : Form) (u v : List ℤ) → IsInReach wide R → AreLeastOfRows (count_of R) R.entries u → AreLeast (count_of R) R.entries u v → AllWithin (10 ^ 30) v
columns_within R u v h rows columns = leasts-within wide R (10 ^ 29) u v enough h (omega arith) (rows-within wide R u enough h rows) rows.count columns

value_at_most : (z : ℤ) (depth : ℕ) (lined : Bool) → depth ≤ 256 → unsigned_abs z ≤ value_reach depth lined → unsigned_abs z ≤ 514 * 10 ^ 34
value_at_most z depth true deep v = omega (arith, deep, v)
value_at_most z depth false deep v = omega (arith, deep, v)

-- the value is far from the limits of 128 bits
pub value_within : (R : Form) → IsInReach wide R → unsigned_abs R.value ≤ 514 * 10 ^ 34
value_within R h = value_at_most R.value R.depth R.is_lined (omega (arith, h.deep)) h.value

-- the value and two sums, as they are computed
pub sums_are : (R : Form) (x a b : ℤ) → IsInReach wide R → x ≡ R.value → unsigned_abs a ≤ 256 * 10 ^ 30 → unsigned_abs b ≤ 256 * 10 ^ 30
    → FitsSigned w128 (to_z w128 (of_z w128 a) +ℤ to_z w128 (of_z w128 b))
    × FitsSigned w128 (to_z w128 (of_z w128 x) +ℤ to_z w128 (of_z w128 (to_z w128 (of_z w128 a) +ℤ to_z w128 (of_z w128 b))))
    × (to_z w128 (of_z w128 (to_z w128 (of_z w128 x) +ℤ to_z w128 (of_z w128 (to_z w128 (of_z w128 a) +ℤ to_z w128 (of_z w128 b))))) ≡ R.value +ℤ (a +ℤ b))
sums_are R x a b h is near far = sums_read wide R x a b 256 256 enough h is (omega arith) (omega arith) near far

-- the greater of the value and its sum with the minima
pub with_minima : (R : Form) (u v : List ℤ) → AreLeastOfRows (count_of R) R.entries u → AreLeast (count_of R) R.entries u v → R.value <ℤ (R.value +ℤ (total u +ℤ total v)) → IsValueWithMinima R (R.value +ℤ (total u +ℤ total v))
with_minima R u v rows columns more = record { u = u; v = v; rows = rows; columns = columns; is = omega (arith, ints, clamps, more) }

pub without_minima : (R : Form) (u v : List ℤ) → AreLeastOfRows (count_of R) R.entries u → AreLeast (count_of R) R.entries u v → (R.value +ℤ (total u +ℤ total v)) ≤ℤ R.value → IsValueWithMinima R R.value
without_minima R u v rows columns most = record { u = u; v = v; rows = rows; columns = columns; is = omega (arith, ints, clamps, most) }

-- the value of a form, as it is passed
pub drawn_value : (R : Form) (x : ℤ) → x ≡ R.value → IsInReach wide R → to_z w128 (of_z w128 x) ≡ R.value
drawn_value R x is h = let small = value_within R h in ap (λ z. to_z w128 (of_z w128 z)) is ∙ to_z-of_z w128 R.value (fits_signed_from_abs w128 R.value (omega (arith, small)))

-- a list of numbers that are taken as they are
pub map_same : (f : ℤ → ℤ) (xs : List ℤ) → ((x : ℤ) → f x ≡ x) → map f xs ≡ xs
map_same f [] same = refl
map_same f (x ∷ xs) same = ap₂ (λ (y : ℤ) (ys : List ℤ). y ∷ ys) (same x) (map_same f xs same)
