use Rattle.std.proofs.Common.{◌∙◌, arith, below_more, refl, subst, sym}
use Rattle.plan_table.specs.Names.{HasName}
use Rattle.plan_file.proofs.ChoiceLists.{chooser_is, chosen_is}
use Rattle.plan_file.proofs.forbidding.has_chosen.Goals as goal

pub returns-then-has_place : goal.returns-then-has_place
returns-then-has_place c =
    let choices = c.args.choices.now in
    let k = c.loop-choice.choice-index in
    let item = c.choice-item.result in
    let own = chooser_is choices k item c.loop-choice-test.true c.choice-item.is in
    let chosen = chosen_is choices k item c.loop-choice-test.true c.choice-item.is in
    let (is, has) = c.has_place.ensures.0 c.if-has_place.true in (
      (λ _. record {
        at = k;
        there = c.loop-choice-test.true;
        own = own ∙ is;
        chosen = subst (λ names. HasName names c.args.place.now) (sym chosen) has;
      }),
      (λ _. refl),
    )

pub loop-choice-preserved : goal.loop-choice-preserved
loop-choice-preserved c =
    let choices = c.args.choices.now in
    let k = c.loop-choice.choice-index in
    let item = c.choice-item.result in
    let own = chooser_is choices k item c.loop-choice-test.true c.choice-item.is in
    let chosen = chosen_is choices k item c.loop-choice-test.true c.choice-item.is in
    below_more _ _ c.loop-choice.invariant (λ is has. absurd (let differs = sym c.if-has_place.false ∙ c.has_place.ensures.1 (sym own ∙ is, subst (λ names. HasName names c.args.place.now) chosen has) in cc))

pub returns : goal.returns
returns c = ((λ on. absurd (cc)), (λ h. absurd (c.loop-choice.invariant h.at (omega (arith, h.there)) h.own h.chosen)))
