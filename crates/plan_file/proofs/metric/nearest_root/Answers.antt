use Rattle.std.proofs.Common.{◌≡◌, ◌<◌, ◌≤◌, ◌+◌, ◌*◌, ◌/◌, ap, arith, subst}
use Rattle.std.proofs.Math.Nat.{div-mul-le_self, lt-div-mul-add}
use Rattle.plan_file.specs.Metric.{IsNearestRoot}
use Rattle.plan_file.proofs.Roots.{nearest_by_halves}
use Rattle.plan_file.proofs.metric.nearest_root.Goals as goal

pub returns : goal.returns
returns c =
    let over = c.power_of_hundred-over.result in
    let times = 4 * c.power_of_hundred-times.result in
    let all = times * c.from.result in
    let root = c.isqrt-doubled.result in
    let low : all / over * over ≤ all = div-mul-le_self all over in
    let next : all < all / over * over + over = lt-div-mul-add {a = all} {b = over} c.power_of_hundred-over.ensures.positive in
    let high : all < (all / over + 1) * over = omega (arith, next) in
    subst (λ x. IsNearestRoot x c.args.scale c.args.decimals ((root + 1) / 2)) c.from.ensures (nearest_by_halves c.from.result c.args.scale c.args.decimals times over (all / over) root ((root + 1) / 2) c.power_of_hundred-over.ensures.value (ap (λ x. 4 * x) c.power_of_hundred-times.ensures.value) low high c.isqrt-doubled.ensures.square_le c.isqrt-doubled.ensures.next_square_gt (omega arith) (omega arith))
