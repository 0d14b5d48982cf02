use Rattle.std.proofs.Common.{arith}
use Rattle.std.proofs.lemmas.Int.{ints}
use Rattle.pair_duals.proofs.pairs.residual.Goals as goal

pub returns-clause-range : goal.returns-clause-range
returns-clause-range g c =
    omega (arith, ints, c.minus.ensures, c.plus.ensures, c.plus-own.ensures, c.plus-other.ensures, c.scaled_pair-cost.ensures.range, c.alpha.ensures.range, c.beta.ensures.range, c.alpha-2.ensures.range, c.beta-2.ensures.range, g.met.N.Number.enough.pair)
