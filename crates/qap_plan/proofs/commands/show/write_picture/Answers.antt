use Rattle.std.proofs.Common.{List, ℕ, subst, sym}
use Rattle.qap_plan.specs.Picturing.{Pictures}
use Rattle.qap_plan.proofs.Endings.{ends_weaker}
use Rattle.qap_plan.proofs.commands.show.write_picture.Goals as goal

pub returns-in-Ok : goal.returns-in-Ok
returns-in-Ok g c =
    let P = c.args.problem.now in
    let x = c.args.answer.now in
    let drawn : Pictures P x.permutation x.cost x.bound c.deref.result.now =
    subst (λ (t : List ℕ). Pictures P x.permutation x.cost x.bound t) (sym c.deref.ensures.value) (record { title = c.args.drawn.now.title.now; shows = c.in-Ok.ensures }) in
    rw c.in-Some.is (ends_weaker c.put.result _ _ (λ written. (c.deref.result.now, drawn, written)) c.put.ensures)
