use Rattle.std.proofs.Common.{◌≡◌, ◌∙◌, ap, arith, length, map, string_bytes, subst, sym}
use Rattle.plan_charge.specs.Forbidden.{AreForbidden}
use Rattle.plan_file.specs.Charges.{IsForbiddenBy}
use Rattle.plan_file.proofs.charges.read_charges.Goals as goal

pub forbidden_of-requires : goal.forbidden_of-requires
forbidden_of-requires c = omega (arith, c.requires.room, ap length c.as_slice-departments.ensures.value, ap length c.deref.ensures.value)

pub returns-clause-forbidden : goal.returns-clause-forbidden
returns-clause-forbidden c = subst (λ n. AreForbidden n c.in_ok-forbidden.forbidden) (ap length c.deref.ensures.value ∙ sym c.requires.size) c.in_ok-forbidden.ensures.forbidden

pub returns-clause-barred : goal.returns-clause-barred
returns-clause-barred c =
    let charging = c.args.plan.now.charging in
    let departments = c.as_slice-departments.result.now in
    let f = c.in_ok-forbidden.forbidden in
    subst (λ d. IsForbiddenBy charging (map string_bytes d) (map string_bytes c.args.problem.now.places.items) f) c.as_slice-departments.ensures.value
    (subst (λ p. IsForbiddenBy charging (map string_bytes departments) (map string_bytes p) f) c.deref.ensures.value c.in_ok-forbidden.ensures.barred)
