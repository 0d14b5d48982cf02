-- A renewal ends nothing, and leaves the transaction's value.
use Rattle.std.proofs.Common.{inr, refl, sym}
use Rattle.space_txn.specs.Machine.{done, refused, renew_txn}
use Rattle.space_script.specs.Session.{Calls, IsRefusedReply, Under, session_of}
use Rattle.space_script.specs.declared.reply.Reply.{Reply}
use Rattle.space_script.proofs.Going.{all_keep, step_keeps}
use Rattle.space_script.proofs.Results.{IfOk-map}
use Rattle.space_script.proofs.Numbered.{set_same, stands_too}
use Rattle.space_script.proofs.keeping.renew_kept.Goals as goal

pub returns-in-Ok-clause-done : goal.returns-in-Ok-clause-done
returns-in-Ok-clause-done c =
    let found = c.in-Some.ensures in
    let t = c.get.result.now in
    inr (
      c.in-Some.place,
      t,
      stands_too c.args.kept.now.items c.args.number c.in-Some.place found.0 t found.1 c.get.ensures,
      record {
        answer = done;
        after = t;
        step = (c.in-Ok.ensures.0, c.in-Ok.ensures.1, refl);
        told = tt;
        stands = sym (set_same c.args.kept.now.items c.in-Some.place t c.get.ensures);
      },
    )

pub returns-in-Ok-clause-going : goal.returns-in-Ok-clause-going
returns-in-Ok-clause-going c =
    all_keep c.args.world.now c.renew_txn.new.self c.args.kept.now.items
    (step_keeps c.args.world.now c.get.result.now (renew_txn c.args.asked) done c.renew_txn.new.self c.get.result.now c.in-Ok.ensures tt) c.requires

pub returns-in-Err-clause-done : goal.returns-in-Err-clause-done
returns-in-Err-clause-done c =
    let found = c.in-Some.ensures in
    let t = c.get.result.now in
    let kept = c.args.kept.now.items in
    let P : Reply → Type 0 = λ reply. Under (session_of c.args.world.now kept) c.args.number (Calls (renew_txn c.args.asked)) reply (session_of c.renew_txn.new.self kept) in
    IfOk-map (IsRefusedReply c.in-Err.error) P c.told_refusal.result (λ reply told. inr (
      c.in-Some.place,
      t,
      stands_too kept c.args.number c.in-Some.place found.0 t found.1 c.get.ensures,
      record {
        answer = refused c.in-Err.error;
        after = t;
        step = (c.in-Err.ensures.0, c.in-Err.ensures.1, refl);
        told = told;
        stands = sym (set_same kept c.in-Some.place t c.get.ensures);
      },
    )) c.told_refusal.ensures
