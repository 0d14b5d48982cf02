use Rattle.plan_table.proofs.Digits.{other_stays, zero_goes}
use Rattle.plan_table.proofs.decimal.without_zeros.Goals as goal

pub returns-then-last-ne48 : goal.returns-then-last-ne48
returns-then-last-ne48 c =
    other_stays c.loop-last.kept.now c.in-Some.front.now c.args.digits.now c.in-Some.last.now c.in-Some.ensures.cases.0 c.if-last-ne48.true c.loop-last.invariant

pub loop-last-preserved : goal.loop-last-preserved
loop-last-preserved c =
    zero_goes c.loop-last.kept.now c.in-Some.front.now c.args.digits.now c.in-Some.last.now c.in-Some.ensures.cases.0 c.if-last-ne48.false c.loop-last.invariant
