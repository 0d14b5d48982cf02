use Rattle.std.proofs.Common.{◌∙◌, arith, below_more, subst, sym}
use Rattle.plan_table.specs.Names.{HasName}
use Rattle.plan_file.specs.Choices.{choosers}
use Rattle.plan_file.proofs.ChoiceLists.{chooser_is}
use Rattle.plan_file.proofs.choosing.check_apart.Goals as goal

pub loop-choice-preserved : goal.loop-choice-preserved
loop-choice-preserved c =
    let here = chooser_is c.args.choices.now c.loop-choice.choice-index c.choice-item.result c.loop-choice-test.true c.choice-item.is in
    below_more _ _ c.loop-choice.invariant
    (λ has. absurd (let differs = sym c.if-is_chooser.false ∙ c.is_chooser.ensures.1 (subst (HasName (choosers c.args.others.now)) (here ∙ sym c.as_str.ensures.value) has) in cc))

pub returns-clause-apart : goal.returns-clause-apart
returns-clause-apart c = λ j below. c.loop-choice.invariant j (omega (arith, below))
