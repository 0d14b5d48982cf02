use Rattle.std.proofs.Common.{sym, subst}
use Rattle.std.specs.Prelude.{OnOk, vec_len}
use Rattle.std.specs.Arc.{arc_value}
use Rattle.part_search.specs.Schedule.{Moves}
use Rattle.part_search.specs.Worker.{job_of}
use Rattle.part_search.specs.declared.schedule.Step.{Step}
use Rattle.part_search.proofs.schedule.make.Goals as goal

pub returns-in-Turn-clause-moves : goal.returns-in-Turn-clause-moves
returns-in-Turn-clause-moves g c =
    let I = arc_value c.args.task.now.ground.now in
    let goes : Step → Type 0 = λ s. OnOk c.turn.result (Moves I (vec_len c.args.posts.now) c.args.room.now s c.turn.new.room) in
    subst goes (sym c.in-Turn.is) (rw c.from.ensures at (c.turn.ensures.turn (job_of I 1000) c.requires.job))

pub returns-in-Turn-clause-job : goal.returns-in-Turn-clause-job
returns-in-Turn-clause-job g c = c.turn.ensures.job (job_of (arc_value c.args.task.now.ground.now) 1000) c.requires.job
