use Rattle.std.proofs.Common.{◌≡◌, ◌++◌, ◌∷◌, ◌∙◌, [], ap, append_assoc, arith, rules, subst, sym}
use Rattle.std.proofs.lemmas.Grind.{common_steps}
use Rattle.toml.proofs.Views.{Entry}
use Rattle.toml.specs.View.{members_view, view}
use Rattle.plan_file.specs.Charging.{AreChoices, IsChoice}
use Rattle.plan_file.proofs.ChoiceLists.{AreChoices-more}
use Rattle.plan_file.proofs.choosing.choices_in.Goals as goal

pub choices-preserved : goal.choices-preserved
choices-preserved c =
    let so_far = c.choices.invariant in
    let done = so_far.done in
    let e : Entry = (c.in-Some.department.now, c.in-Some.value.now) in
    let iter : c.choices.department-iterator ≡ e ∷ c.next.new.self = grind (arith, common_steps) in
    let choice = c.in_ok-choice.choice in
    let pushed : c.push.new.self.items ≡ c.choices.choices.items ++ choice ∷ [] = search rules in
    record {
      can = tt;
      finite = tt;
      done = done ++ e ∷ [];
      whole = so_far.whole ∙ ap (λ t. done ++ t) iter ∙ sym (append_assoc done (e ∷ []) c.next.new.self);
      read =
          subst (λ l. AreChoices (members_view (done ++ e ∷ [])) l) (sym pushed)
          (AreChoices-more done e c.choices.choices.items choice so_far.read (subst (λ k. IsChoice k (view e.1) choice) c.as_str.ensures.value c.in_ok-choice.ensures.choice));
    }
