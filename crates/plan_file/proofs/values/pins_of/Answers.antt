use Rattle.std.proofs.Common.{◌≡◌, ◌++◌, ◌∷◌, ◌∙◌, [], ap, append_assoc, arith, rules, subst, sym}
use Rattle.std.proofs.lemmas.Grind.{common_steps}
use Rattle.toml.proofs.Views.{Entry}
use Rattle.toml.specs.View.{members_view, view}
use Rattle.plan_file.specs.Plan.{ArePins, IsPin}
use Rattle.plan_file.proofs.Fixings.{ArePins-more}
use Rattle.plan_file.proofs.values.pins_of.Goals as goal

pub pins-preserved : goal.pins-preserved
pins-preserved c =
    let so_far = c.pins.invariant in
    let done = so_far.done in
    let e : Entry = (c.in-Some.department.now, c.in-Some.place.now) in
    let iter : c.pins.department-iterator ≡ e ∷ c.next.new.self = grind (arith, common_steps) in
    let pin = c.in_ok-pin.pin in
    let pushed : c.push.new.self.items ≡ c.pins.pins.items ++ pin ∷ [] = search rules in
    record {
      can = tt;
      finite = tt;
      done = done ++ e ∷ [];
      whole = so_far.whole ∙ ap (λ t. done ++ t) iter ∙ sym (append_assoc done (e ∷ []) c.next.new.self);
      read =
          subst (λ l. ArePins (members_view (done ++ e ∷ [])) l) (sym pushed)
          (ArePins-more done e c.pins.pins.items pin so_far.read (subst (λ k. IsPin k (view e.1) pin) c.as_str.ensures.value c.in_ok-pin.ensures.pin));
    }
