use Rattle.std.proofs.Common.{arith}
use Rattle.pair_duals.proofs.Values.{value_within, place_in_layers}
use Rattle.pair_duals.proofs.duals.in_layers.Goals as goal

pub returns-clause-range : goal.returns-clause-range
returns-clause-range g c =
    let inside = place_in_layers c.args.m c.args.j c.args.i c.args.k c.requires.j_in c.requires.i_in c.requires.k_in in
    value_within g.N.Number.value c.args.numbers.now _ c.index-numbers-j.result _ c.requires.range c.index-numbers-j.is (omega (arith, inside, c.requires.count))
