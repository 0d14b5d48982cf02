-- A write changes no number.
use Rattle.std.proofs.Common.{refl}
use Rattle.space_script.specs.Session.{with_write}
use Rattle.space_script.proofs.Going.{all_step, same_world}
use Rattle.space_script.proofs.keeping.out_kept.Goals as goal

pub returns-clause-going : goal.returns-clause-going
returns-clause-going c =
    let found = c.in-Some.ensures in
    rw (c.in_ok-out_in.ensures.ok found.0 found.1.there) (
    all_step c.args.world.now c.args.world.now c.args.kept.now.items c.in-Some.place found.0 (with_write found.0 c.args.tuple c.args.lease)
    (same_world c.args.world.now c.args.world.now refl) found.1.there refl c.requires)
