use Rattle.std.proofs.Common.{◌≡◌, ◌∙◌, ◌+◌, ap, arith, length, map, string_bytes, subst, sym}
use Rattle.std.specs.Prelude.{IfOk}
use Rattle.plan_charge.specs.Charges.{AreCharges}
use Rattle.plan_file.specs.Charges.{AreCostsOf, AreTextCosts}
use Rattle.plan_file.proofs.charges.charges_of.Goals as goal

pub text_charges-requires : goal.text_charges-requires
text_charges-requires c = omega (arith, c.requires.room, ap length c.as_slice-departments.ensures.value, ap length c.as_slice-places.ensures.value)

pub returns-in-None-clause-charges : goal.returns-in-None-clause-charges
returns-in-None-clause-charges c =
    subst (λ n. IfOk c.no_charges.result (AreCharges n)) (ap length c.as_slice-places.ensures.value ∙ sym c.requires.size) c.no_charges.ensures.charges

pub returns-in-Some-clause-charges : goal.returns-in-Some-clause-charges
returns-in-Some-clause-charges c =
    subst (λ n. IfOk c.text_charges.result (AreCharges n)) (ap length c.as_slice-places.ensures.value ∙ sym c.requires.size) c.text_charges.ensures.charges

pub returns-in-Some-clause-costs : goal.returns-in-Some-clause-costs
returns-in-Some-clause-costs c =
    let problem = c.args.problem.now in
    let fraction = problem.flow_scale + problem.distance_scale in
    let departments = c.as_slice-departments.result.now in
    subst (λ o. IfOk c.text_charges.result (AreCostsOf c.args.rules o problem)) (sym c.in-Some.is)
    (subst (λ d. IfOk c.text_charges.result (AreTextCosts c.args.rules c.in-Some.text.now (map string_bytes d) (map string_bytes problem.places.items) fraction)) c.as_slice-departments.ensures.value
    (subst (λ p. IfOk c.text_charges.result (AreTextCosts c.args.rules c.in-Some.text.now (map string_bytes departments) (map string_bytes p) fraction)) c.as_slice-places.ensures.value c.text_charges.ensures.costs))

pub returns-in-None-clause-costs : goal.returns-in-None-clause-costs
returns-in-None-clause-costs c = subst (λ o. IfOk c.no_charges.result (AreCostsOf c.args.rules o c.args.problem.now)) (sym c.in-None.is) c.no_charges.ensures.none
