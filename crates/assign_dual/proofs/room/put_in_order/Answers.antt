use Rattle.std.proofs.Common.{arith}
use Rattle.assign_dual.proofs.Least.{IsBijection-in_order}
use Rattle.assign_dual.proofs.room.put_in_order.Goals as goal

pub returns : goal.returns
returns c = IsBijection-in_order _ (λ k h. c.loop-k.invariant.at k (omega (arith, c.loop-k.invariant.count)))
