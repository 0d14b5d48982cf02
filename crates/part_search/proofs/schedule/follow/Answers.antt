use Rattle.std.proofs.Common.{◌∙◌, arith, sym}
use Rattle.std.specs.Arc.{arc_value}
use Rattle.part_search.proofs.Runs.{Runs-step, Runs-whole}
use Rattle.part_search.proofs.schedule.follow.Goals as goal

pub loop-i-preserved : goal.loop-i-preserved
loop-i-preserved g c =
    let kept = c.loop-i.invariant in
    let made = c.in_ok-make.ensures {u = tt} in
    record {
      runs = Runs-step (arc_value c.args.task.now.ground.now) c.args.workers _ c.args.steps.now c.loop-i.i _ _ _ c.loop-i-test.true kept.runs (rw kept.count at made.moves);
      job = made.job;
      count = made.count ∙ kept.count;
    }

pub returns : goal.returns
returns g c = record {
  opening = c.args.space;
  opens = c.requires.opening;
  place = c.loop-i.room;
  is = sym c.into_space.ensures.value;
  runs = Runs-whole (arc_value c.args.task.now.ground.now) c.args.workers _ c.args.steps.now c.loop-i.i _ (omega arith) c.loop-i.invariant.runs;
  searched = c.requires.law.is_searched _ _ c.into_space.ensures.lawful;
}
