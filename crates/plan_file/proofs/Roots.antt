-- Roots rounded to the nearest whole number.
use Rattle.std.proofs.Common.{◌≡◌, ◌∙◌, ℕ, ◌+◌, ◌-◌, ◌*◌, ◌/◌, ◌^◌, ◌<◌, ◌≤◌, arith, inl, inr, sym, zero}
use Rattle.std.proofs.Math.Nat.{mul-le-mul, mul-le-mul_right, one-le-pow, pow-le-pow_right}
use Rattle.plan_file.specs.Metric.{IsNearestRoot}

-- the power of a hundred for k places, of which there are at most 9, is at most 10^18
pub power_small : (k : ℕ) → k ≤ 9 → 10 ^ (2 * k) ≤ 10 ^ 18
power_small k few = pow-le-pow_right {n = 10} (omega arith) {i = 2 * k} {j = 18} (omega (arith, few))

-- and it is above 0
pub power_positive : (k : ℕ) → 0 < 10 ^ (2 * k)
power_positive k = one-le-pow (2 * k) 10 (omega arith)

square_le : (a b : ℕ) → a ≤ b → a * a ≤ b * b
square_le a b less = mul-le-mul less less

-- twice the root, rounded down and then halved upwards
pub nearest_by_halves : (square scale decimals times over quotient root k : ℕ) → over ≡ 10 ^ (2 * scale) → times ≡ 4 * 10 ^ (2 * decimals) → quotient * over ≤ times * square → times * square < (quotient + 1) * over
    → root * root ≤ quotient → quotient < (root + 1) * (root + 1) → 2 * k ≤ root + 1 → root ≤ 2 * k → IsNearestRoot square scale decimals k
nearest_by_halves square scale decimals times over quotient root k over_is times_is low high root_low root_high least most =
    let below : (2 * k - 1) * (2 * k - 1) ≤ root * root = square_le (2 * k - 1) root (omega (arith, least)) in
    let above : (root + 1) * (root + 1) ≤ (2 * k + 1) * (2 * k + 1) = square_le (root + 1) (2 * k + 1) (omega (arith, most)) in
    let reached : (2 * k - 1) * (2 * k - 1) * over ≤ quotient * over = mul-le-mul_right over (omega (arith, below, root_low)) in
    let passed : (quotient + 1) * over ≤ (2 * k + 1) * (2 * k + 1) * over = mul-le-mul_right over (omega (arith, above, root_high)) in
    record {
      reached = rw (sym over_is, sym times_is) (omega (arith, reached, low));
      not_passed = rw (sym over_is, sym times_is) (omega (arith, high, passed));
    }
