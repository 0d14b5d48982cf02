use Rattle.std.proofs.Common.{◌≡◌, ◌∙◌, subst, rules, to_z, of_z, inr, refl}
use Rattle.std.specs.Int.{w128}
use Rattle.std.proofs.lemmas.Result.{err_from_is_err_and}
use Rattle.qap_io.specs.Writing.{BreaksOff}
use Rattle.qap_plan.proofs.commands.answering.plan_stream.Goals as goal

pub returns-in_err-send-clause-answered : goal.returns-in_err-send-clause-answered
returns-in_err-send-clause-answered g c =
    let found = c.in_ok-found.found in
    let cost : to_z w128 (of_z w128 found.cost) ≡ found.cost = search rules in
    let bound : to_z w128 (of_z w128 found.bound) ≡ found.bound = search rules in
    let text = c.deref.ensures.value ∙ c.in_ok-text.ensures in
    let broken = subst (BreaksOff g.W.Write.contents c.args.writer.now c.send.new.writer) text c.in_err-send.ensures in
    let p = err_from_is_err_and c.from_residual-in_err-send.result c.from_residual-in_err-send.ensures.1 in
    rw (p.1, p.2) (inr (
      refl,
      record {
        problem = c.in_ok-instance.instance;
        answer = found;
        comes = record { input = c.in_ok-instance.ensures; start = c.in_ok-start.start; begins = c.in_ok-start.ensures.read; planned = c.in_ok-found.ensures.planned };
        broken = rw (cost, bound) at broken;
      },
    ))
