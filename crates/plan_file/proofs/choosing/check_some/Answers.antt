use Rattle.std.proofs.Common.{◌≡◌, ◌∙◌, [], arith, below_more, string_bytes, sym}
use Rattle.plan_file.proofs.ChoiceLists.{chosen_is, map-some, some-items}
use Rattle.plan_file.proofs.choosing.check_some.Goals as goal

pub loop-choice-preserved : goal.loop-choice-preserved
loop-choice-preserved c =
    let item = c.choice-item.result in
    let here = chosen_is c.args.choices.now c.loop-choice.choice-index item c.loop-choice-test.true c.choice-item.is in
    below_more _ _ c.loop-choice.invariant (λ e. map-some string_bytes item.places.items (some-items item.places.items item.places.len c.is_empty.result (omega (arith, item.places.ok.0)) c.is_empty.ensures c.if-is_empty.false) (sym here ∙ e))
