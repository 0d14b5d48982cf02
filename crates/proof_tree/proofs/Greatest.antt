-- The greatest bound that a value reaches.
use Rattle.std.proofs.Common.{◌≡◌, ℕ, ◌+◌, ◌*◌, ◌<◌, ◌≤◌, ◌^◌, ℤ, pos, unsigned_abs, to_z, of_z, refl, sym, ◌∙◌, ap, ap₂, subst, arith}
use Rattle.std.specs.Prelude.{FitsSigned, ◌+ℤ◌, ◌-ℤ◌, ◌*ℤ◌, ◌<ℤ◌, ◌≤ℤ◌}
use Rattle.std.specs.Int.{int_div_euclid, w128}
use Rattle.std.proofs.lemmas.Int.{by_lt_z, fits_signed_from_abs, ints, to_z-of_z, unsigned_abs-mul}
use Rattle.std.proofs.lemmas.Nat.{mul-le}
use Rattle.qap_cost.proofs.Sums.{*ℤ-+ℤ}
use Rattle.pair_duals.proofs.Products.{scale-assoc}
use Rattle.proof_tree.proofs.Multiples.{reaches-greatest}
use Rattle.proof_tree.proofs.Remainders.{IsRemainder-euclid}
use Rattle.proof_tree.specs.Leaves.{IsGreatest}
use Rattle.proof_tree.specs.Valid.{ReachesBound}

-- the greatest multiple of a unit that is at most a number is this many units
pub record IsQuotient (unit : ℕ) (z times : ℤ) : Type 0 where
  pub least : (pos unit *ℤ times) ≤ℤ z
  pub less : z <ℤ (pos unit *ℤ times +ℤ pos unit)

-- so it is with the Euclidean quotient
pub IsQuotient-euclid : (unit : ℕ) (z : ℤ) → 0 < unit → IsQuotient unit z (int_div_euclid z (pos unit))
IsQuotient-euclid unit z some =
    let h = IsRemainder-euclid unit z some in
    let multiple = h.multiple in
    let least = h.least in
    let less = h.less in
    record { least = omega (arith, ints, multiple, least); less = omega (arith, ints, multiple, less) }

-- a multiple of the step is no farther from 0 than the scaled one, which is no farther than the number and a unit
pub step-within : (scale step far : ℕ) (z times : ℤ) → 0 < scale → unsigned_abs z ≤ far → IsQuotient (scale * step) z times → unsigned_abs (pos step *ℤ times) ≤ far + scale * step
step-within scale step far z times some near h =
    let least = h.least in
    let less = h.less in
    let assoc : pos (scale * step) *ℤ times ≡ pos scale *ℤ (pos step *ℤ times) = scale-assoc scale (pos step) times in
    let size = unsigned_abs-mul (pos scale) (pos step *ℤ times) in
    let more : 1 * unsigned_abs (pos step *ℤ times) ≤ scale * unsigned_abs (pos step *ℤ times) = mul-le 1 (unsigned_abs (pos step *ℤ times)) scale (unsigned_abs (pos step *ℤ times)) some (omega arith) in
    let scaled : unsigned_abs (pos (scale * step) *ℤ times) ≤ far + scale * step = omega (arith, ints, least, less, near) in
    omega (arith, ints, ap unsigned_abs assoc, size, more, scaled)

-- one step more than the greatest multiple of the step whose scaled number is below the value
pub IsGreatest-quotient : (scale step : ℕ) (value times : ℤ) → 0 < step → IsQuotient (scale * step) (value -ℤ pos 1) times → IsGreatest (λ g. ReachesBound step g scale value) (pos step *ℤ times +ℤ pos step)
IsGreatest-quotient scale step value times some h =
    let least = h.least in
    let less = h.less in
    let assoc : pos (scale * step) *ℤ times ≡ pos scale *ℤ (pos step *ℤ times) = scale-assoc scale (pos step) times in
    record {
      reached = (reaches-greatest step scale (pos step *ℤ times +ℤ pos step) value times (omega (arith, ints, some)) (omega (arith, ints))).1 (omega (arith, ints, least, assoc));
      greatest = λ g reaches.
          by_lt_z (pos step *ℤ times +ℤ pos step) g
          (λ past.
          let one : pos step *ℤ pos 1 ≡ pos step = omega (arith, ints) in
          let next = *ℤ-+ℤ (pos step) times (pos 1) in
          let above = reaches (times +ℤ pos 1) (omega (arith, ints, past, one, next)) in
          let apart : pos scale *ℤ (pos step *ℤ (times +ℤ pos 1)) ≡ pos scale *ℤ (pos step *ℤ times +ℤ pos step) = ap (λ z. pos scale *ℤ z) (next ∙ ap (λ z. pos step *ℤ times +ℤ z) one) in
          let parts = *ℤ-+ℤ (pos scale) (pos step *ℤ times) (pos step) in
          let unit : pos scale *ℤ pos step ≡ pos (scale * step) = refl in
          absurd (omega (arith, ints, above, apart, parts, unit, less, assoc)))
          (λ most. most);
    }

-- what is computed fits 128 bits, and is the greatest bound that the value reaches
pub record IsComputed (scale step : ℕ) (value s q : ℤ) : Type 0 where
  pub product : FitsSigned w128 (to_z w128 (of_z w128 s) *ℤ to_z w128 (of_z w128 q))
  pub sum : FitsSigned w128 (to_z w128 (of_z w128 (to_z w128 (of_z w128 s) *ℤ to_z w128 (of_z w128 q))) +ℤ to_z w128 (of_z w128 s))
  pub greatest : IsGreatest (λ g. ReachesBound step g scale value)
      (to_z w128 (of_z w128 (to_z w128 (of_z w128 (to_z w128 (of_z w128 s) *ℤ to_z w128 (of_z w128 q))) +ℤ to_z w128 (of_z w128 s))))

pub IsComputed-quotient : (scale step : ℕ) (value r s q : ℤ) → 0 < scale → 0 < step → scale ≤ 2 ^ 32 → step ≤ 2 ^ 64 → unsigned_abs value ≤ 10 ^ 37 → r ≡ pos scale → s ≡ pos step → to_z w128 (of_z w128 q) ≡ q
    → q ≡ int_div_euclid (to_z w128 (of_z w128 (to_z w128 (of_z w128 value) -ℤ pos 1))) (to_z w128 (of_z w128 (to_z w128 (of_z w128 r) *ℤ to_z w128 (of_z w128 s)))) → IsComputed scale step value s q
IsComputed-quotient scale step value r s q some_scale some scales steps near r_is s_is q_read q_is =
    let unit = scale * step in
    let last : to_z w128 (of_z w128 (to_z w128 (of_z w128 value) -ℤ pos 1)) ≡ value -ℤ pos 1 = omega (arith, ints, near) in
    let r_read : to_z w128 (of_z w128 r) ≡ pos scale = ap (λ z. to_z w128 (of_z w128 z)) r_is ∙ omega (arith, ints, scales) in
    let s_read : to_z w128 (of_z w128 s) ≡ pos step = ap (λ z. to_z w128 (of_z w128 z)) s_is ∙ omega (arith, ints, steps) in
    let room : unit ≤ 2 ^ 32 * 2 ^ 64 = mul-le scale step (2 ^ 32) (2 ^ 64) scales steps in
    let some_unit : 1 * 1 ≤ unit = mul-le 1 1 scale step some_scale some in
    let both : pos scale *ℤ pos step ≡ pos unit = refl in
    let unit_read : to_z w128 (of_z w128 (pos unit)) ≡ pos unit = omega (arith, ints, room) in
    let unit_is : to_z w128 (of_z w128 (to_z w128 (of_z w128 r) *ℤ to_z w128 (of_z w128 s))) ≡ pos unit = ap₂ (λ (y z : ℤ). to_z w128 (of_z w128 (y *ℤ z))) r_read s_read ∙ unit_read in
    let times = int_div_euclid (value -ℤ pos 1) (pos unit) in
    let is : q ≡ times = q_is ∙ ap₂ int_div_euclid last unit_is in
    let quotient = IsQuotient-euclid unit (value -ℤ pos 1) (omega (arith, some_unit)) in
    let least = quotient.least in
    let within = step-within scale step (10 ^ 37 + 1) (value -ℤ pos 1) times some_scale (omega (arith, ints, near)) quotient in
    let product_is : to_z w128 (of_z w128 s) *ℤ to_z w128 (of_z w128 q) ≡ pos step *ℤ times = ap₂ ◌*ℤ◌ s_read (q_read ∙ is) in
    let small : unsigned_abs (pos step *ℤ times) ≤ 2 * 10 ^ 37 = omega (arith, within, room) in
    let product_read : to_z w128 (of_z w128 (pos step *ℤ times)) ≡ pos step *ℤ times = to_z-of_z w128 (pos step *ℤ times) (fits_signed_from_abs w128 (pos step *ℤ times) (omega (arith, small))) in
    let sum_is : to_z w128 (of_z w128 (to_z w128 (of_z w128 s) *ℤ to_z w128 (of_z w128 q))) +ℤ to_z w128 (of_z w128 s) ≡ pos step *ℤ times +ℤ pos step =
    ap₂ ◌+ℤ◌ (ap (λ z. to_z w128 (of_z w128 z)) product_is ∙ product_read) s_read in
    let far : unsigned_abs (pos step *ℤ times +ℤ pos step) ≤ 3 * 10 ^ 37 = omega (arith, ints, small, steps) in
    let fits = fits_signed_from_abs w128 (pos step *ℤ times +ℤ pos step) (omega (arith, far)) in
    record {
      product = subst (FitsSigned w128) (sym product_is) (fits_signed_from_abs w128 (pos step *ℤ times) (omega (arith, small)));
      sum = subst (FitsSigned w128) (sym sum_is) fits;
      greatest = subst (IsGreatest (λ g. ReachesBound step g scale value)) (sym (ap (λ z. to_z w128 (of_z w128 z)) sum_is ∙ to_z-of_z w128 (pos step *ℤ times +ℤ pos step) fits)) (IsGreatest-quotient scale step value times some quotient);
    }
