-- The cost step of an instance in scale fits 64 bits.
use Rattle.std.proofs.Common.{ℕ, zero, suc, ◌+◌, ◌*◌, ◌^◌, ◌<◌, ◌≤◌, Bool, true, false, refl, inl, inr, arith}
use Rattle.std.specs.Prelude.{ℤ, pos, ◌+ℤ◌, if◌then◌else◌, unsigned_abs, ◌==◌}
use Rattle.std.proofs.lemmas.Int.{ints}
use Rattle.std.proofs.lemmas.Bool.{cases_lt}
use Rattle.std.proofs.lemmas.Nat.{mul-le}
use Rattle.std.proofs.Math.Nat.{max-le, mul_comm, add-mul}
use Rattle.qap_cost.specs.Instance.{Problem, entry}
use Rattle.pair_duals.specs.CostStep.{both_ways, gcd, gcd_of_diagonal, gcd_of_others, gcd_of_row, gcd_to, is_symmetric, on_diagonal, product_step, step_of}
use Rattle.pair_duals.specs.Range.{IsInScale}
use Rattle.pair_duals.specs.Reduced.{but}
use Rattle.pair_duals.proofs.Divisors.{gcd-below, gcd-within}
use Rattle.subtree_search.specs.Premises.{limits_of_64}

-- a common divisor times y is within a limit that each number times y is within
gcd-times : (x z y limit : ℕ) → x * y ≤ limit → z * y ≤ limit → gcd x z * y ≤ limit
gcd-times x z y limit hx hz =
    elim (cases_lt x z) [
      | inl less ↦ let product : gcd x z * y ≤ z * y = mul-le _ _ _ _ (omega (arith, gcd-within x z, less)) (omega arith) in omega (arith, product, hz)
      | inr more ↦ let product : gcd x z * y ≤ x * y = mul-le _ _ _ _ (omega (arith, gcd-within x z, more)) (omega arith) in omega (arith, product, hx)
    ]

-- likewise that of several numbers
gcd_to-times : (f : ℕ → ℤ) (n y limit : ℕ) → ((i : ℕ) → i < n → unsigned_abs (f i) * y ≤ limit) → gcd_to f n * y ≤ limit
gcd_to-times f zero y limit each = omega arith
gcd_to-times f (suc n) y limit each = gcd-times (gcd_to f n) (unsigned_abs (f n)) y limit (gcd_to-times f n y limit (λ i below. each i (omega arith))) (each n (omega arith))

-- 0, or a number
but-times : (b : Bool) (x : ℤ) (y limit : ℕ) → unsigned_abs x * y ≤ limit → unsigned_abs (if b then pos 0 else x) * y ≤ limit
but-times true x y limit h = omega arith
but-times false x y limit h = h

-- that of the numbers off the diagonal
gcd_of_others-times : (f : ℕ → ℕ → ℤ) (n y limit : ℕ) → ((i j : ℕ) → i < n → j < n → unsigned_abs (f i j) * y ≤ limit) → gcd_of_others f n * y ≤ limit
gcd_of_others-times f n y limit each =
    gcd_to-times (gcd_of_row f n) n y limit (λ i hi. gcd_to-times (but i (f i)) n y limit (λ j hj. but-times (j == i) (f i j) y limit (each i j hi hj)))

-- the products of a number of f and one of g are within a limit
abbrev AreWithin : (ℕ → ℕ → ℤ) → (ℕ → ℕ → ℤ) → ℕ → ℕ → Type 0
AreWithin f g n limit = (i j k l : ℕ) → i < n → j < n → k < n → l < n → unsigned_abs (f i j) * unsigned_abs (g k l) ≤ limit

-- so are the products of their common divisors: off the diagonal
others : (f g : ℕ → ℕ → ℤ) (n limit : ℕ) → AreWithin f g n limit → gcd_of_others f n * gcd_of_others g n ≤ limit
others f g n limit each =
    gcd_of_others-times f n (gcd_of_others g n) limit (λ i j hi hj.
    let turned = gcd_of_others-times g n (unsigned_abs (f i j)) limit (λ k l hk hl. let h = each i j k l hi hj hk hl in omega (arith, h, mul_comm (unsigned_abs (f i j)) (unsigned_abs (g k l)))) in
    omega (arith, turned, mul_comm (unsigned_abs (f i j)) (gcd_of_others g n)))

-- and on it
alone : (f g : ℕ → ℕ → ℤ) (n limit : ℕ) → AreWithin f g n limit → gcd_of_diagonal f n * gcd_of_diagonal g n ≤ limit
alone f g n limit each =
    gcd_to-times (on_diagonal f) n (gcd_of_diagonal g n) limit (λ i hi.
    let turned = gcd_to-times (on_diagonal g) n (unsigned_abs (f i i)) limit (λ k hk. let h = each i i k k hi hi hk hk in omega (arith, h, mul_comm (unsigned_abs (f i i)) (unsigned_abs (g k k)))) in
    omega (arith, turned, mul_comm (unsigned_abs (f i i)) (gcd_of_diagonal g n)))

product_step-below : (I : Problem) (f g : ℕ → ℕ → ℤ) (limit : ℕ) → AreWithin f g I.size limit → AreWithin (entry I.size I.a) (entry I.size I.b) I.size limit → product_step I f g ≤ limit
product_step-below I f g limit each plain =
    gcd-below (gcd_of_others f I.size * gcd_of_others g I.size) (gcd_of_diagonal (entry I.size I.a) I.size * gcd_of_diagonal (entry I.size I.b) I.size) (product_step I f g) limit refl
    (others f g I.size limit each) (alone (entry I.size I.a) (entry I.size I.b) I.size limit plain)

-- ---- sums of two numbers

both : (x y : ℤ) → unsigned_abs (x +ℤ y) ≤ unsigned_abs x + unsigned_abs y
both x y = omega (arith, ints)

both-times : (x y : ℤ) (z half : ℕ) → unsigned_abs x * z ≤ half → unsigned_abs y * z ≤ half → unsigned_abs (x +ℤ y) * z ≤ half + half
both-times x y z half hx hy =
    let product : unsigned_abs (x +ℤ y) * z ≤ (unsigned_abs x + unsigned_abs y) * z = mul-le _ _ _ _ (both x y) (omega arith) in
    let apart = add-mul (unsigned_abs x) (unsigned_abs y) z in
    omega (arith, product, apart, hx, hy)

-- ---- the step

-- a product that is within a limit, scaled, is within it
once : (s p limit : ℕ) → 0 < s → s * p ≤ limit → p ≤ limit
once s p limit some h = let product : 1 * p ≤ s * p = mul-le 1 p s p some (omega arith) in omega (arith, product, h)

if-below : (b : Bool) (x limit : ℕ) → x ≤ limit → (if b then x else 0) ≤ limit
if-below true x limit h = h
if-below false x limit h = omega arith

pub step-below : (I : Problem) (s : ℕ) → 0 < s → IsInScale limits_of_64 I s → step_of I < 2 ^ 64
step-below I s some scale =
    let a = entry I.size I.a in
    let b = entry I.size I.b in
    let plain : AreWithin a b I.size (2 ^ 52) = λ i j k l hi hj hk hl. once s (unsigned_abs (a i j) * unsigned_abs (b k l)) (2 ^ 52) some (scale.below i j k l hi hj hk hl) in
    let wide : AreWithin a b I.size (2 ^ 53) = λ i j k l hi hj hk hl. let h = plain i j k l hi hj hk hl in omega (arith, h) in
    let by_a : AreWithin a (both_ways b) I.size (2 ^ 53) = λ i j k l hi hj hk hl.
    let sum = both-times (b k l) (b l k) (unsigned_abs (a i j)) (2 ^ 52) (let h = plain i j k l hi hj hk hl in omega (arith, h, mul_comm (unsigned_abs (a i j)) (unsigned_abs (b k l)))) (let h = plain i j l k hi hj hl hk in omega (arith, h, mul_comm (unsigned_abs (a i j)) (unsigned_abs (b l k)))) in
    omega (arith, sum, mul_comm (unsigned_abs (a i j)) (unsigned_abs (both_ways b k l))) in
    let by_b : AreWithin (both_ways a) b I.size (2 ^ 53) = λ i j k l hi hj hk hl. both-times (a i j) (a j i) (unsigned_abs (b k l)) (2 ^ 52) (plain i j k l hi hj hk hl) (plain j i k l hj hi hk hl) in
    let one = product_step-below I a b (2 ^ 53) wide wide in
    let two = if-below (is_symmetric a I.size) (product_step I a (both_ways b)) (2 ^ 53) (product_step-below I a (both_ways b) (2 ^ 53) by_a wide) in
    let three = if-below (is_symmetric b I.size) (product_step I (both_ways a) b) (2 ^ 53) (product_step-below I (both_ways a) b (2 ^ 53) by_b wide) in
    let step : step_of I ≤ 2 ^ 53 = max-le (omega arith) (max-le one (max-le two three)) in
    omega (arith, step)
