use Rattle.std.proofs.Common.{◌+◌, ◌*◌, ◌-◌, arith, map, refl}
use Rattle.pair_duals.specs.PairDuals.{in_layers}
use Rattle.pair_duals.proofs.DualRows.{IsDualRow-taken, row_in_layers}
use Rattle.pair_duals.proofs.duals.row_of_layer.Goals as goal

pub returns : goal.returns
returns g c =
    let m = c.args.m in
    let start = (c.args.j * m + c.args.i) * m in
    let inside = row_in_layers m c.args.j c.args.i c.requires.j_in c.requires.i_in in
    IsDualRow-taken g.N.Number.value g.N.Number.limits.dual m start (start + m - start) c.args.numbers.now (in_layers m (map g.N.Number.value c.args.numbers.now) c.args.j c.args.i) (omega arith) (omega (arith, inside, c.requires.count)) c.requires.range (λ k below. refl)
