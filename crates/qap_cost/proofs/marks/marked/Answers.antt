use Rattle.std.proofs.Common.{arith}
use Rattle.qap_cost.proofs.MarkTables.{Marks-none, Marks-more, Marks-all}
use Rattle.qap_cost.proofs.marks.marked.Goals as goal

pub loop-number-init : goal.loop-number-init
loop-number-init c = Marks-none c.args.numbers.now

pub loop-number-preserved : goal.loop-number-preserved
loop-number-preserved c =
    Marks-more _ _ _ _ c.loop-number.invariant c.loop-number-test.true c.from.ensures (omega (arith, c.from.ensures, c.requires c.loop-number.number-index c.loop-number-test.true))

pub returns : goal.returns
returns c = Marks-all _ _ _ c.loop-number.invariant (omega arith)
