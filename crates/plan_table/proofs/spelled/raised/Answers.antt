use Rattle.std.proofs.Common.{arith}
use Rattle.plan_table.specs.Decimal.{max_number}
use Rattle.plan_table.proofs.Worth.{at_least, beyond, raised-more}
use Rattle.plan_table.proofs.spelled.raised.Goals as goal

pub returns-then-magnitude-gt-MAX_NUMBER : goal.returns-then-magnitude-gt-MAX_NUMBER
returns-then-magnitude-gt-MAX_NUMBER c = omega (arith, at_least c.args.magnitude c.args.power)

pub returns-then-value-gt-MAX_NUMBER : goal.returns-then-value-gt-MAX_NUMBER
returns-then-value-gt-MAX_NUMBER c =
    beyond max_number c.args.magnitude c.loop.value c.loop.counter c.args.power (omega arith) c.loop.invariant.0 (omega arith)

pub loop-preserved : goal.loop-preserved
loop-preserved c = (raised-more c.args.magnitude c.loop.value c.loop.counter c.loop.invariant.0, omega arith)
