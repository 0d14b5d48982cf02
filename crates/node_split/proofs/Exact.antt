-- Numbers that 128 bits represent.
use Rattle.std.proofs.Common.{◌≡◌, ◌≤◌, ◌^◌, ℤ, unsigned_abs, to_z, of_z, ap, ap₂, ◌∙◌, arith}
use Rattle.std.specs.Int.{w128, int_max}
use Rattle.std.proofs.lemmas.Int.{fits_signed_from_abs, ints, to_z-of_z}

-- a number that is not far from 0 is exact
pub reads : (z : ℤ) → unsigned_abs z ≤ 10 ^ 27 → to_z w128 (of_z w128 z) ≡ z
reads z small = to_z-of_z w128 z (fits_signed_from_abs w128 z (omega (arith, small)))

-- so is the greater of two
pub reads_greater : (x y z : ℤ) → unsigned_abs x ≤ 10 ^ 27 → unsigned_abs y ≤ 10 ^ 27 → z ≡ int_max (to_z w128 (of_z w128 x)) (to_z w128 (of_z w128 y)) → to_z w128 (of_z w128 z) ≡ int_max x y
reads_greater x y z x_small y_small is =
    let same : z ≡ int_max x y = is ∙ ap₂ int_max (reads x x_small) (reads y y_small) in
    ap (λ a. to_z w128 (of_z w128 a)) same ∙ reads (int_max x y) (greater_small x y x_small y_small)
  where
    greater_small : (x y : ℤ) → unsigned_abs x ≤ 10 ^ 27 → unsigned_abs y ≤ 10 ^ 27 → unsigned_abs (int_max x y) ≤ 10 ^ 27
    greater_small x y x_small y_small = grind (arith, ints, x_small, y_small)
