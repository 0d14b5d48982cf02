use Rattle.std.proofs.Common.{arith}
use Rattle.qap_io.proofs.Runs.{BeginsWithDigits-more, magnitude_of-more}
use Rattle.qap_io.proofs.digits.front_digits.Goals as goal

pub loop-count-preserved : goal.loop-count-preserved
loop-count-preserved c =
    let text = c.args.text.now in
    let count = c.loop-count.count in
    let digit = c.if-is_ascii_digit.ensures.cases in
    record {
      digits = BeginsWithDigits-more text count c.loop-count.invariant.digits (omega arith) (omega (arith, digit)) (omega (arith, digit));
      value = omega (arith, magnitude_of-more text count (omega arith));
    }
