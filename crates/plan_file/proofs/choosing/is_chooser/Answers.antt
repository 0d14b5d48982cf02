use Rattle.std.proofs.Common.{◌∙◌, arith, below_more, refl, string_bytes, sym, length}
use Rattle.std.specs.Cmp.Lexicographic.{other_text, same_text}
use Rattle.std.proofs.lemmas.List.{length-map}
use Rattle.plan_file.specs.declared.source.Choice.{Choice}
use Rattle.plan_file.proofs.ChoiceLists.{chooser_is}
use Rattle.plan_file.proofs.choosing.is_chooser.Goals as goal

pub returns-then-eq : goal.returns-then-eq
returns-then-eq c =
    let choices = c.args.choices.now in
    let k = c.loop-choice.choice-index in
    let here = chooser_is choices k c.choice-item.result c.loop-choice-test.true c.choice-item.is in (
      (λ _. (k, omega (arith, c.loop-choice-test.true, length-map choices (λ (x : Choice). string_bytes x.department)), here ∙ sym c.as_str.ensures.value ∙ same_text _ _ c.if-eq.ensures)),
      (λ _. refl),
    )

pub loop-choice-preserved : goal.loop-choice-preserved
loop-choice-preserved c =
    let here = chooser_is c.args.choices.now c.loop-choice.choice-index c.choice-item.result c.loop-choice-test.true c.choice-item.is in
    below_more _ _ c.loop-choice.invariant (λ e. other_text _ _ c.if-eq.ensures (c.as_str.ensures.value ∙ sym here ∙ e))
