-- An abort ends its own transaction alone.
use Rattle.std.specs.Prelude.{remove}
use Rattle.std.proofs.lemmas.List.Elements.{All-push}
use Rattle.space_script.specs.Session.{IsGoing}
use Rattle.space_script.proofs.Going.{all_at, all_keep, all_remove, abort_keeps, remove_going, same_world}
use Rattle.space_script.proofs.keeping.abort_kept.Goals as goal

pub returns-in-Ok-clause-going : goal.returns-in-Ok-clause-going
returns-in-Ok-clause-going c =
    let old = c.args.world.now in
    let new = c.abort.new.self in
    let left = rw (← c.remove.ensures.rest) at (all_remove (IsGoing old) c.args.kept.now.items c.in-Some.place c.requires) in
    remove_going old new c.remove.result.number c.remove.new.self.items (abort_keeps old c.remove.result new c.remove.result c.in-Ok.ensures.step) c.remove.ensures.others left

pub returns-in_err-put_back-in-Err-clause-going : goal.returns-in_err-put_back-in-Err-clause-going
returns-in_err-put_back-in-Err-clause-going c =
    let old = c.args.world.now in
    let left = all_remove (IsGoing old) c.args.kept.now.items c.in-Some.place c.requires in
    rw (c.in_err-put_back-in-Err.ensures, c.remove.ensures.rest) (
    all_keep old c.abort.new.self _ (same_world old c.abort.new.self c.in-Err.ensures.step.1) left)

pub returns-in_ok-put_back-in-Err-clause-going : goal.returns-in_ok-put_back-in-Err-clause-going
returns-in_ok-put_back-in-Err-clause-going c =
    let old = c.args.world.now in
    let kept = c.args.kept.now.items in
    let place = c.in-Some.place in
    let this = all_at (IsGoing old) kept place c.remove.result c.requires c.remove.ensures.value in
    let back = All-push (IsGoing old) (remove kept place) c.remove.result (all_remove (IsGoing old) kept place c.requires) this in
    rw (c.in_ok-put_back-in-Err.ensures, c.remove.ensures.rest, c.in-Err.ensures.handed_back) (
    all_keep old c.abort.new.self _ (same_world old c.abort.new.self c.in-Err.ensures.step.1) back)
