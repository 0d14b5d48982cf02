use Rattle.std.proofs.Common.{ℕ, Option, subst}
use Rattle.shared_space.specs.Limit.{DidWithin}
use Rattle.part_search.proofs.schedule.step_of.Goals as goal

pub returns-clause-made : goal.returns-clause-made
returns-clause-made g c =
    let made = c.step.ensures.made in
    let old = c.args.room.now in
    let new = c.step.new.room in
    let within = subst (λ (limit : Option ℕ). DidWithin limit old made.0 made.1 new) c.requires.limit made.4 in
    (made.0, made.1, made.2, made.3, c.no_limit_law.ensures.machine old new made.0 made.1 within)
