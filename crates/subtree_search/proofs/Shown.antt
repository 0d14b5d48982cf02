-- The bounds that leaves reach.
use Rattle.std.proofs.Common.{◌≡◌, ℕ, zero, suc, ◌+◌, ◌*◌, ◌^◌, ◌<◌, Bool, true, false, ◌∙◌, ap, arith, ℤ}
use Rattle.std.specs.Prelude.{pos, ◌*ℤ◌, ◌≤◌, unsigned_abs}
use Rattle.std.proofs.lemmas.Int.{ints}
use Rattle.std.proofs.Math.Nat.{le-max_left}
use borrow.Author.Differences.{product_is}
use Rattle.qap_cost.specs.Instance.{Problem}
use Rattle.pair_duals.specs.CostStep.{Divides, step_of}
use Rattle.pair_duals.specs.Range.{IsInReach, value_reach}
use Rattle.pair_duals.specs.Reduced.{Form}
use Rattle.pair_duals.proofs.Products.{scale-assoc}
use Rattle.proof_tree.specs.Valid.{ReachesBound}
use Rattle.subtree_search.specs.Closed.{Reaches}
use Rattle.subtree_search.specs.Premises.{limits_of_64}

-- in multiples of the cost step, a value reaches every bound up to one that it reaches in multiples of a divisor of it
pub Reaches-bound : (I : Problem) (step scale : ℕ) (g value : ℤ) → Divides step (pos (step_of I)) → ReachesBound step g scale value → Reaches I scale g value
Reaches-bound I step scale g value divides reaches bound less k below =
    let own : pos (step_of I) *ℤ k ≡ pos step *ℤ (divides.0 *ℤ k) = ap (λ z. z *ℤ k) divides.1 ∙ scale-assoc step divides.0 k in
    let there = reaches (divides.0 *ℤ k) (omega (arith, ints, below, less, own)) in
    omega (arith, ints, there, ap (λ z. pos scale *ℤ z) own)

-- a divisor of the cost step, which is at least 1, is
pub some-divisor : (I : Problem) (step : ℕ) → Divides step (pos (step_of I)) → 0 < step
some-divisor I zero divides =
    let some : 1 ≤ step_of I = le-max_left _ _ in
    let none = product_is (pos 0) divides.0 in
    absurd (omega (arith, ints, some, divides.1, none.0, none.1))
some-divisor I (suc n) divides = omega arith

-- the value of a form is far from what 128 bits hold
most_value : (depth : ℕ) (lined : Bool) → value_reach depth lined ≤ (2 * depth + 2) * 10 ^ 34
most_value depth true = omega arith
most_value depth false = omega arith

pub small-value : (R : Form) → IsInReach limits_of_64 R → unsigned_abs R.value ≤ 10 ^ 37
small-value R h =
    let most = most_value R.depth R.is_lined in
    let deep = h.deep in
    let value = h.value in
    omega (arith, most, deep, value)
