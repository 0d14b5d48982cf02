use Rattle.std.proofs.Common.{◌≡◌, ap₂, ◌∙◌, ◌≤◌, arith, w64, to_z, of_z}
use Rattle.std.proofs.lemmas.Int.{ints}
use Rattle.std.specs.Prelude.{ℤ, ◌+ℤ◌, ◌-ℤ◌, ◌*ℤ◌, unsigned_abs, FitsSigned}
use Rattle.qap_improve.proofs.Readings.{fits_contrast, reads_both, reads_contrast}
use Rattle.qap_improve.proofs.contrast.small_change.Goals as goal

reads : (x y : ℤ) → unsigned_abs x ≤ 100000000 → unsigned_abs y ≤ 100000000 → to_z w64 (of_z w64 (to_z w64 (of_z w64 x) -ℤ to_z w64 (of_z w64 y))) ≡ x -ℤ y
reads x y hx hy = reads_contrast x y (omega (arith, hx)) (omega (arith, hy))

fits : (x y : ℤ) → unsigned_abs x ≤ 100000000 → unsigned_abs y ≤ 100000000 → FitsSigned w64 (to_z w64 (of_z w64 x) -ℤ to_z w64 (of_z w64 y))
fits x y hx hy = fits_contrast x y (omega (arith, hx)) (omega (arith, hy))

pub overflow_sub-first-2 : goal.overflow_sub-first-2
overflow_sub-first-2 c = fits c.args.first.now.flow_back c.args.second.now.flow_back c.requires.first.flow_back c.requires.second.flow_back

pub overflow_sub-second-2 : goal.overflow_sub-second-2
overflow_sub-second-2 c = fits c.args.second.now.distance_back c.args.first.now.distance_back c.requires.second.distance_back c.requires.first.distance_back

pub overflow_add-result : goal.overflow_add-result
overflow_add-result c = omega (arith, ints, c.small_product-there.ensures.bounded, c.small_product-back.ensures.bounded)

pub returns-clause-value : goal.returns-clause-value
returns-clause-value c =
    let x = c.args.first.now in
    let y = c.args.second.now in
    let hx = c.requires.first in
    let hy = c.requires.second in
    reads_both c.small_product-there.result c.small_product-back.result (omega (arith, c.small_product-there.ensures.bounded)) (omega (arith, c.small_product-back.ensures.bounded))
    ∙ ap₂ ◌+ℤ◌
    (c.small_product-there.ensures.value ∙ ap₂ ◌*ℤ◌ (reads x.flow y.flow hx.flow hy.flow) (reads y.distance x.distance hy.distance hx.distance))
    (c.small_product-back.ensures.value ∙ ap₂ ◌*ℤ◌ (reads x.flow_back y.flow_back hx.flow_back hy.flow_back) (reads y.distance_back x.distance_back hy.distance_back hx.distance_back))
