-- Those that were kept are live still.
use Rattle.std.proofs.Common.{◌∙◌, [], ◌∷◌, ◌++◌, sym, ap}
use Rattle.space_script.specs.Session.{live_of}
use Rattle.space_script.proofs.Going.{all_keep, begin_keeps, live_push}
use Rattle.space_script.proofs.keeping.begin_kept.Goals as goal

pub returns-in-Ok-clause-done : goal.returns-in-Ok-clause-done
returns-in-Ok-clause-done c =
    let step = c.in-Ok.ensures in
    let old = c.args.world.now in
    let new = c.begin.new.self in
    let kept = c.args.kept.now.items in
    let all = all_keep old new kept (begin_keeps old new c.args.asked step.2) c.requires in (
      c.in-Ok.txn,
      step,
      sym c.number-number.ensures,
      c.push_live.ensures ∙ ap (λ l. l ++ live_of new (c.in-Ok.txn ∷ [])) c.make_room.ensures.items ∙ live_push new kept c.in-Ok.txn all,
    )
