use Rattle.std.proofs.Common.{ap₂, ◌∙◌, arith}
use Rattle.std.specs.Prelude.{◌+ℤ◌, ◌*ℤ◌}
use Rattle.qap_improve.proofs.Readings.{fits_contrast, fits_large_both, reads_contrast, reads_large_both}
use Rattle.qap_improve.proofs.contrast.change.Goals as goal

pub overflow_sub-first-2 : goal.overflow_sub-first-2
overflow_sub-first-2 c = fits_contrast c.args.first.now.flow_back c.args.second.now.flow_back c.requires.first.flow_back c.requires.second.flow_back

pub overflow_sub-second-2 : goal.overflow_sub-second-2
overflow_sub-second-2 c = fits_contrast c.args.second.now.distance_back c.args.first.now.distance_back c.requires.second.distance_back c.requires.first.distance_back

pub overflow_add-result : goal.overflow_add-result
overflow_add-result c = fits_large_both c.wide_product-there.result c.wide_product-back.result (omega (arith, c.wide_product-there.ensures.bounded)) (omega (arith, c.wide_product-back.ensures.bounded))

pub returns-clause-value : goal.returns-clause-value
returns-clause-value c =
    let x = c.args.first.now in
    let y = c.args.second.now in
    let hx = c.requires.first in
    let hy = c.requires.second in
    reads_large_both c.wide_product-there.result c.wide_product-back.result (omega (arith, c.wide_product-there.ensures.bounded)) (omega (arith, c.wide_product-back.ensures.bounded))
    ∙ ap₂ ◌+ℤ◌
    (c.wide_product-there.ensures.value ∙ ap₂ ◌*ℤ◌ (reads_contrast x.flow y.flow hx.flow hy.flow) (reads_contrast y.distance x.distance hy.distance hx.distance))
    (c.wide_product-back.ensures.value ∙ ap₂ ◌*ℤ◌ (reads_contrast x.flow_back y.flow_back hx.flow_back hy.flow_back) (reads_contrast y.distance_back x.distance_back hy.distance_back hx.distance_back))
