use Rattle.std.proofs.Common.{arith}
use Rattle.std.specs.String.{string_bytes}
use Rattle.plan_answer.proofs.Moves.{moved_more}
use Rattle.plan_answer.proofs.compared.moved_count.Goals as goal

pub loop-i-preserved : goal.loop-i-preserved
loop-i-preserved c =
    let more = moved_more string_bytes c.args.departments.now c.args.today.now c.args.best.now c.loop-i.i (omega arith) (omega arith) (omega arith) in
    record {
      few = omega (arith, c.moves-moved.ensures.small);
      left = omega (arith, more, c.moves-moved.ensures.count, c.loop-i.invariant.left);
    }
