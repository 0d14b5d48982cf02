use Rattle.std.proofs.Common.{arith}
use Rattle.subtree_search.proofs.level.limit.Goals as goal

pub returns : goal.returns
returns c = record { each = λ j below. c.loop-number.invariant j (omega (arith, c.loop-number.auto.numbers, c.loop-number-test.false)) }
