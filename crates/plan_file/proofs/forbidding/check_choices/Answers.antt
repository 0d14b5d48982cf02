use Rattle.std.proofs.Common.{arith, below_more, length, map, string_bytes, subst, sym}
use Rattle.std.proofs.lemmas.List.{length-map}
use Rattle.plan_table.specs.Grid.{AreAmong}
use Rattle.plan_table.specs.Names.{HasName}
use Rattle.plan_file.specs.declared.source.Choice.{Choice}
use Rattle.plan_file.proofs.ChoiceLists.{chooser_is, chosen_is}
use Rattle.plan_file.proofs.forbidding.check_choices.Goals as goal

pub loop-choice-preserved : goal.loop-choice-preserved
loop-choice-preserved c =
    let choices = c.args.choices.now in
    let k = c.loop-choice.choice-index in
    let item = c.choice-item.result in
    let own = chooser_is choices k item c.loop-choice-test.true c.choice-item.is in
    let chosen = chosen_is choices k item c.loop-choice-test.true c.choice-item.is in
    record {
      departments = below_more _ _ c.loop-choice.invariant.departments (subst (HasName (map string_bytes c.args.departments.now)) (sym own) c.in_ok-check_choice.ensures.department);
      places = below_more _ _ c.loop-choice.invariant.places (subst (λ names. AreAmong names (map string_bytes c.args.places.now)) (sym chosen) c.in_ok-check_choice.ensures.places);
    }

pub returns : goal.returns
returns c =
    let choices = c.args.choices.now in
    record {
      departments = λ j below. c.loop-choice.invariant.departments j (omega (arith, below, length-map choices (λ (x : Choice). string_bytes x.department)));
      places = λ j below. c.loop-choice.invariant.places j (omega (arith, below));
    }
