use Rattle.pair_duals.specs.Numbers.{number_at}
use Rattle.pair_duals.specs.CostStep.{gcd_of_row}
use Rattle.pair_duals.proofs.Divisors.{gcd-below, gcd_to-more}
use Rattle.pair_duals.proofs.step.gcd_of_others.Goals as goal

pub loop-i-preserved : goal.loop-i-preserved
loop-i-preserved c =
    let before = c.loop-i.invariant in
    record {
      value = gcd_to-more (gcd_of_row (number_at c.args.instance.now c.args.numbers) c.args.instance.now.size) c.loop-i.i _ _ _ before.value c.gcd_of_row.ensures.value c.gcd-divisor.ensures;
      range = gcd-below _ _ _ _ c.gcd-divisor.ensures before.range c.gcd_of_row.ensures.range;
    }
