use Rattle.pair_duals.specs.Numbers.{number_at}
use Rattle.pair_duals.specs.CostStep.{on_diagonal}
use Rattle.pair_duals.proofs.Divisors.{gcd-below, gcd_to-more}
use Rattle.pair_duals.proofs.step.gcd_of_diagonal.Goals as goal

pub loop-i-preserved : goal.loop-i-preserved
loop-i-preserved c =
    let before = c.loop-i.invariant in
    record {
      value = gcd_to-more (on_diagonal (number_at c.args.instance.now c.args.numbers)) c.loop-i.i _ _ _ before.value c.size_of.ensures.value c.gcd-divisor.ensures;
      range = gcd-below _ _ _ _ c.gcd-divisor.ensures before.range c.size_of.ensures.range;
    }
