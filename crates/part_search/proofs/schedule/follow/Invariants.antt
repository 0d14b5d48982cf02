use Rattle.std.specs.Prelude.{◌≡◌, All, false, take, vec_len}
use Rattle.std.specs.Arc.{arc_value}
use Rattle.shared_space.specs.Place.{place_of}
use Rattle.part_search.specs.Schedule.{Runs}
use Rattle.part_search.specs.Worker.{Job, job_of}
use Rattle.part_search.proofs.schedule.follow.Given as goal

abbrev pub invariant-loop-i : goal.invariant-loop-i
invariant-loop-i g l = record {
  runs : Runs (arc_value l.task.ground.now) l.fn.workers (place_of l.fn.space l.fn.workers 0 false) (take l.i l.steps) l.room;
  job : All (λ (J : Job). J ≡ job_of (arc_value l.task.ground.now) 1000) l.posts.items;
  count : vec_len l.posts ≡ l.fn.workers;
}
