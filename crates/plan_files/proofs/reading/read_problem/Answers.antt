use Rattle.std.proofs.Common.{rules, ◌≡◌, ◌≢◌, ◌-◌, length, [], ap, subst, inl, inr}
use Rattle.qap_text.specs.InstanceText.{IsInstanceText}
use Rattle.qap_text.specs.Word.{after_separators}
use Rattle.plan_files.specs.declared.error.PlannerError.TheVariants.{Rest}
use Rattle.plan_files.proofs.reading.read_problem.Goals as goal

pub returns : goal.returns
returns g c =
    let I = c.in_ok-instance.instance in
    let rest = c.in_ok-instance.rest.now in
    let text = c.in_ok-text.text.items in
    let more : after_separators rest ≢ [] = search rules in
    let place : c.saturating_sub.result ≡ length text - length (after_separators rest) = search rules in
    inr (inl (record {
      problem = I;
      rest = rest;
      input = record { text = text; read = c.in_ok-text.ensures; instance_text = subst (λ t. IsInstanceText t I rest) c.deref.ensures.value c.in_ok-instance.ensures };
      more = more;
      is = ap Rest place;
    }))
