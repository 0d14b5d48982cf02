use Rattle.std.proofs.Common.{◌+◌, ◌*◌, ◌-◌, arith, map, refl}
use Rattle.qap_cost.specs.Instance.{entry}
use Rattle.pair_duals.proofs.DualRows.{IsDualRow-taken_small}
use Rattle.pair_duals.proofs.Values.{row_inside}
use Rattle.pair_duals.proofs.reduced.row_of_square.Goals as goal

pub returns : goal.returns
returns g c =
    let value = g.N.Number.value in
    let m = c.args.m in
    let start = c.args.r * m in
    let inside = row_inside m c.args.r c.requires.row in
    IsDualRow-taken_small value g.N.Number.limits.reach m start (start + m - start) c.args.entries.now (entry m (map value c.args.entries.now) c.args.r) (omega arith) (omega (arith, inside, c.requires.count)) (λ k below. refl) c.requires.range
