use Rattle.pair_duals.specs.Numbers.{number_at}
use Rattle.pair_duals.specs.Reduced.{but}
use Rattle.pair_duals.proofs.Divisors.{gcd-below, gcd_to-more}
use Rattle.pair_duals.proofs.step.gcd_of_row.Goals as goal

pub loop-j-preserved : goal.loop-j-preserved
loop-j-preserved c =
    let before = c.loop-j.invariant in
    record {
      value = gcd_to-more (but c.args.i (number_at c.args.instance.now c.args.numbers c.args.i)) c.loop-j.j _ _ _ before.value c.size_of_other.ensures.value c.gcd-divisor.ensures;
      range = gcd-below _ _ _ _ c.gcd-divisor.ensures before.range c.size_of_other.ensures.range;
    }
