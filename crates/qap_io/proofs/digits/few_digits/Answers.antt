use Rattle.std.proofs.Common.{arith}
use Rattle.qap_io.proofs.Runs.{BeginsWithDigits-more, magnitude_of-more, magnitude_of-lt_few}
use Rattle.qap_io.proofs.digits.few_digits.Goals as goal

pub overflow_mul-magnitude : goal.overflow_mul-magnitude
overflow_mul-magnitude c =
    omega (arith, magnitude_of-lt_few c.args.text.now c.loop-count.count c.loop-count.invariant.digits (omega arith))

pub overflow_add-magnitude : goal.overflow_add-magnitude
overflow_add-magnitude c =
    omega (arith, magnitude_of-lt_few c.args.text.now c.loop-count.count c.loop-count.invariant.digits (omega arith))

pub loop-count-preserved : goal.loop-count-preserved
loop-count-preserved c =
    let text = c.args.text.now in
    let count = c.loop-count.count in
    let digit = c.if-is_ascii_digit.ensures.cases in
    record {
      few = omega arith;
      digits = BeginsWithDigits-more text count c.loop-count.invariant.digits (omega arith) (omega (arith, digit)) (omega (arith, digit));
      value = omega (arith, magnitude_of-more text count (omega arith));
    }
