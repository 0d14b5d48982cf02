use Rattle.std.proofs.Common.{inr, subst}
use Rattle.plan_charge.specs.Forbidding.{IsPassed, IsRaised}
use Rattle.plan_charge.proofs.Raising.{Forbids-raised, IsFull-passed}
use Rattle.plan_charge.proofs.Spreads.{spread-least}
use Rattle.plan_charge.proofs.forbidding.forbid.Goals as goal

pub returns-in-Some-2 : goal.returns-in-Some-2
returns-in-Some-2 c =
    let I = c.args.instance.now in
    let old = c.args.charges.now in
    let f = c.args.forbidden.now in
    let x = c.in-Some.penalty in
    let made : IsRaised c.size.result old f x c.in-Some-2.raised = rw c.in-Some-2.is at c.in_ok-raised.ensures in
    Forbids-raised I old f x c.in-Some-2.raised c.requires.charges c.in-Some.ensures (spread-least I old c.size.ensures.instance.positive)
    (subst (λ n. IsRaised n old f x c.in-Some-2.raised) c.size.ensures.value made)

pub returns-in-None : goal.returns-in-None
returns-in-None c =
    let I = c.args.instance.now in
    let old = c.args.charges.now in
    let f = c.args.forbidden.now in
    let x = c.in-Some.penalty in
    let passed : IsPassed c.size.result old f x.step = rw c.in-None.is at c.in_ok-raised.ensures in
    inr (IsFull-passed I old f x c.in-Some.ensures (spread-least I old c.size.ensures.instance.positive) (subst (λ n. IsPassed n old f x.step) c.size.ensures.value passed))
