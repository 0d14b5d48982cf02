use Rattle.std.proofs.Common.{◌≡◌, ◌*◌, arith, length, rules}
use Rattle.plan_file.proofs.Measures.{AreMeasured-all}
use Rattle.plan_file.proofs.distances.distance_matrix.Goals as goal

pub returns : goal.returns
returns c =
    let n = length c.args.points.now in
    let all : c.loop-k.k ≡ n * n = omega arith in
    AreMeasured-all c.args.metric c.args.scale c.args.points.now n c.loop-k.k c.loop-k.entries.items (search rules) all c.loop-k.invariant
