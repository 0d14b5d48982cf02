use Rattle.std.proofs.Common.{◌≡◌, ◌*◌, ◌+◌, arith, get_or, of_z, pos, rules, to_z}
use Rattle.std.specs.Int.{w64}
use Rattle.plan_table.proofs.Points.{coordinates_more}
use Rattle.plan_table.proofs.places.points_of.Goals as goal

pub loop-k-preserved : goal.loop-k-preserved
loop-k-preserved c =
    let zs = c.args.coordinates.now in
    let k = c.loop-k.k in
    let x : to_z w64 (of_z w64 (get_or zs (2 * k) (pos 0))) ≡ get_or zs (2 * k) (pos 0) = search rules in
    let y : to_z w64 (of_z w64 (get_or zs (2 * k + 1) (pos 0))) ≡ get_or zs (2 * k + 1) (pos 0) = search rules in
    coordinates_more zs k c.loop-k.points.items c.push.new.self.items _ c.in_ok-push.ensures.items c.loop-k.invariant (omega (arith, c.requires.many, c.loop-k-test.true)) x y
