use Rattle.std.proofs.Common.{arith}
use Rattle.plan_table.proofs.Digits.{magnitude_of-more}
use Rattle.plan_table.proofs.decimal.followed_by.Goals as goal

pub loop-digit-preserved : goal.loop-digit-preserved
loop-digit-preserved c = record {
  held = omega arith;
  value = λ front before.
      let so_far = c.loop-digit.invariant.value front before in
      let more = magnitude_of-more front c.args.digits.now c.loop-digit.digit-index (omega arith) in
      omega arith;
}
