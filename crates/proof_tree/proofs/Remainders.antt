-- Euclidean quotients and remainders.
use Rattle.std.proofs.Common.{◌≡◌, ℕ, ◌*◌, ◌<◌, ◌/◌, ℤ, pos, refl, ap, arith}
use Rattle.std.specs.Prelude.{negsuc, ◌+ℤ◌, ◌-ℤ◌, ◌*ℤ◌, ◌<ℤ◌, ◌≤ℤ◌}
use Rattle.std.specs.Int.{int_div_euclid, int_rem_euclid}
use Rattle.std.proofs.lemmas.Int.{ints}
use Rattle.std.proofs.Math.Nat.{div-add-mod, mod-lt}
use Rattle.qap_cost.proofs.Sums.{*ℤ-+ℤ}

-- a number less its remainder is this multiple
pub record IsRemainder (step : ℕ) (z times rest : ℤ) : Type 0 where
  pub multiple : z -ℤ rest ≡ pos step *ℤ times
  pub least : pos 0 ≤ℤ rest
  pub less : rest <ℤ pos step

-- so it is with the Euclidean quotient and remainder of a number
pub IsRemainder-euclid : (step : ℕ) (z : ℤ) → 0 < step → IsRemainder step z (int_div_euclid z (pos step)) (int_rem_euclid z (pos step))
IsRemainder-euclid step (pos a) some =
    let q = a / step in
    let parts = div-add-mod a step in
    let small = mod-lt a some in
    let product : pos step *ℤ pos q ≡ pos (step * q) = refl in
    record { multiple = omega (arith, ints, parts, product); least = omega (arith, ints); less = omega (arith, ints, small) }
IsRemainder-euclid step (negsuc a) some =
    let q = a / step in
    let parts = div-add-mod a step in
    let small = mod-lt a some in
    let product : pos step *ℤ pos q ≡ pos (step * q) = refl in
    let one : pos step *ℤ pos 1 ≡ pos step = omega (arith, ints) in
    let both = *ℤ-+ℤ (pos step) (negsuc q) (pos q +ℤ pos 1) in
    let up = *ℤ-+ℤ (pos step) (pos q) (pos 1) in
    let zero_is : negsuc q +ℤ (pos q +ℤ pos 1) ≡ pos 0 = omega (arith, ints) in
    let none : pos step *ℤ (negsuc q +ℤ (pos q +ℤ pos 1)) ≡ pos step *ℤ pos 0 = ap (λ t. pos step *ℤ t) zero_is in
    let nothing : pos step *ℤ pos 0 ≡ pos 0 = omega (arith, ints) in
    record { multiple = omega (arith, ints, parts, product, one, both, up, none, nothing, small); least = omega (arith, ints, small); less = omega (arith, ints, small) }
