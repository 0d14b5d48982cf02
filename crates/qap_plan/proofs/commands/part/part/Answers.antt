use Rattle.std.proofs.Common.{inl, inr, rules, subst}
use Rattle.qap_plan.specs.Solving.{FindsPart}
use Rattle.qap_plan.proofs.commands.part.part.Goals as goal

pub returns-in-Some : goal.returns-in-Some
returns-in-Some g c = λ success. record {
  posed = c.in_ok-posed.posed;
  is_posed = c.in_ok-posed.ensures.posed;
  solved = inl (record { stated = c.in-Some.stated; stands = search rules; tells = search rules });
}

pub returns-in-Ok : goal.returns-in-Ok
returns-in-Ok g c = λ success. record {
  posed = c.in_ok-posed.posed;
  is_posed = c.in_ok-posed.ensures.posed;
  solved = inr (subst (λ s. FindsPart g.S.Sink.writes g.S.Sink.prints c.args.request.now.proof.now c.in_ok-posed.posed c.in-Ok.status s c.solve_and_write.new.sink)
      c.in_default-open.ensures.opened (c.in-Ok.ensures success));
}
