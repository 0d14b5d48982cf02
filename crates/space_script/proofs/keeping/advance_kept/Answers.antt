-- Those that are left are live.
use Rattle.std.proofs.Common.{sym}
use Rattle.space_script.proofs.Going.{advance_begun, all_keep, live_all, live_going, same_world}
use Rattle.space_script.proofs.keeping.advance_kept.Goals as goal

pub returns-in-Ok-clause-going : goal.returns-in-Ok-clause-going
returns-in-Ok-clause-going c =
    let begun = advance_begun c.args.world.now c.advance.new.self c.args.moment c.in-Ok.ensures.1 in
    rw c.keep_live.ensures (live_going c.advance.new.self c.args.kept.now.items (λ k d lt. rw begun (c.requires k d lt).0))

pub returns-in-Err-Exhausted-clause-live : goal.returns-in-Err-Exhausted-clause-live
returns-in-Err-Exhausted-clause-live c =
    sym (live_all c.advance.new.self c.args.kept.now.items
    (all_keep c.args.world.now c.advance.new.self c.args.kept.now.items (same_world c.args.world.now c.advance.new.self (rw c.in-Err-Exhausted.field-0-is at c.in-Err-Exhausted.ensures).1) c.requires))
