-- The cost step of an instance fits 64 bits.
use Rattle.std.proofs.Common.{ℕ, zero, suc, ◌+◌, ◌*◌, ◌^◌, ◌<◌, ◌≤◌, Bool, true, false, cond, arith, nat_eq, unsigned_abs}
use Rattle.std.specs.Prelude.{ℤ, pos, max}
use Rattle.std.proofs.lemmas.Int.{ints}
use Rattle.std.proofs.lemmas.Nat.{mul-add-lt, mul-le}
use Rattle.qap_cost.specs.Instance.{IsInstance, Problem, entry}
use Rattle.pair_duals.proofs.Divisors.{gcd-within}
use Rattle.pair_duals.specs.CostStep.{both_ways, gcd_of_diagonal, gcd_of_others, gcd_of_row, gcd_to, is_symmetric, on_diagonal, product_step, step_of}
use Rattle.pair_duals.specs.Reduced.{but}

-- each number f(i,j) with i and j below n is that near to 0
abbrev AreNear : (ℕ → ℕ → ℤ) → ℕ → ℕ → Type 0
AreNear f n limit = (i j : ℕ) → i < n → j < n → unsigned_abs (f i j) ≤ limit

gcd_to-within : (f : ℕ → ℤ) (n limit : ℕ) → ((i : ℕ) → i < n → unsigned_abs (f i) ≤ limit) → gcd_to f n ≤ limit
gcd_to-within f zero limit near = omega arith
gcd_to-within f (suc n) limit near =
    let before : gcd_to f n ≤ limit = gcd_to-within f n limit (λ i below. near i (omega (arith, below))) in
    let last : unsigned_abs (f n) ≤ limit = near n (omega arith) in
    let both : gcd_to f (suc n) ≤ max (gcd_to f n) (unsigned_abs (f n)) = gcd-within (gcd_to f n) (unsigned_abs (f n)) in
    omega (arith, before, last, both)

zero_or_near : (b : Bool) (x : ℤ) (limit : ℕ) → unsigned_abs x ≤ limit → unsigned_abs (cond b (pos 0) x) ≤ limit
zero_or_near true x limit near = omega arith
zero_or_near false x limit near = near

gcd_of_others-within : (f : ℕ → ℕ → ℤ) (n limit : ℕ) → AreNear f n limit → gcd_of_others f n ≤ limit
gcd_of_others-within f n limit near =
    gcd_to-within (gcd_of_row f n) n limit
    (λ i below. gcd_to-within (but i (f i)) n limit (λ j inside. zero_or_near (nat_eq j i) (f i j) limit (near i j below inside)))

gcd_of_diagonal-within : (f : ℕ → ℕ → ℤ) (n limit : ℕ) → AreNear f n limit → gcd_of_diagonal f n ≤ limit
gcd_of_diagonal-within f n limit near = gcd_to-within (on_diagonal f) n limit (λ i below. near i i below below)

near_both_ways : (f : ℕ → ℕ → ℤ) (n limit : ℕ) → AreNear f n limit → AreNear (both_ways f) n (2 * limit)
near_both_ways f n limit near = λ i j hi hj.
    let one = near i j hi hj in
    let other = near j i hj hi in
    omega (arith, ints, one, other)

-- the matrices, and twice the limit of what has them both ways
near_a : (I : Problem) → IsInstance I → AreNear (entry I.size I.a) I.size (10 ^ 9)
near_a I instance = λ i j hi hj. instance.a_range (i * I.size + j) (mul-add-lt i I.size j I.size hi hj)

near_b : (I : Problem) → IsInstance I → AreNear (entry I.size I.b) I.size (10 ^ 9)
near_b I instance = λ i j hi hj. instance.b_range (i * I.size + j) (mul-add-lt i I.size j I.size hi hj)

product_step-within : (I : Problem) (f g : ℕ → ℕ → ℤ) (x y : ℕ) → IsInstance I → AreNear f I.size x → AreNear g I.size y → x * y ≤ 2 * 10 ^ 18 → product_step I f g ≤ 2 * 10 ^ 18
product_step-within I f g x y instance near_f near_g small =
    let n = I.size in
    let others = mul-le (gcd_of_others f n) (gcd_of_others g n) x y (gcd_of_others-within f n x near_f) (gcd_of_others-within g n y near_g) in
    let a = gcd_of_diagonal (entry n I.a) n in
    let b = gcd_of_diagonal (entry n I.b) n in
    let alone : a * b ≤ 10 ^ 9 * 10 ^ 9 =
    mul-le a b (10 ^ 9) (10 ^ 9) (gcd_of_diagonal-within (entry n I.a) n (10 ^ 9) (near_a I instance)) (gcd_of_diagonal-within (entry n I.b) n (10 ^ 9) (near_b I instance)) in
    let both = gcd-within (gcd_of_others f n * gcd_of_others g n) (a * b) in
    omega (arith, others, alone, both, small)

if_within : (b : Bool) (x limit : ℕ) → x ≤ limit → cond b x 0 ≤ limit
if_within true x limit within = within
if_within false x limit within = omega arith

-- it is at most 2 * 10^18
pub step_of-within : (I : Problem) → IsInstance I → step_of I ≤ 2 * 10 ^ 18
step_of-within I instance =
    let n = I.size in
    let a = entry n I.a in
    let b = entry n I.b in
    let near_a = near_a I instance in
    let near_b = near_b I instance in
    let plain : product_step I a b ≤ 2 * 10 ^ 18 = product_step-within I a b (10 ^ 9) (10 ^ 9) instance near_a near_b (omega arith) in
    let by_a : product_step I a (both_ways b) ≤ 2 * 10 ^ 18 = product_step-within I a (both_ways b) (10 ^ 9) (2 * 10 ^ 9) instance near_a (near_both_ways b n (10 ^ 9) near_b) (omega arith) in
    let by_b : product_step I (both_ways a) b ≤ 2 * 10 ^ 18 = product_step-within I (both_ways a) b (2 * 10 ^ 9) (10 ^ 9) instance (near_both_ways a n (10 ^ 9) near_a) near_b (omega arith) in
    let second = if_within (is_symmetric a n) (product_step I a (both_ways b)) (2 * 10 ^ 18) by_a in
    let third = if_within (is_symmetric b n) (product_step I (both_ways a) b) (2 * 10 ^ 18) by_b in
    omega (arith, plain, second, third)
