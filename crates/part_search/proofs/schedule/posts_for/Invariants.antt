use Rattle.std.proofs.Common.{◌≡◌, ◌+◌}
use Rattle.std.specs.Prelude.{All, vec_len}
use Rattle.std.specs.Arc.{arc_value}
use Rattle.part_search.specs.Worker.{Job, job_of}
use Rattle.part_search.proofs.schedule.posts_for.Given as goal

abbrev pub invariant-loop-share : goal.invariant-loop-share
invariant-loop-share g l = record {
  count : vec_len l.posts + vec_len l.rest ≡ vec_len l.fn.shares;
  job : All (λ (J : Job). J ≡ job_of (arc_value l.task.ground.now) 1000) l.posts.items;
}

abbrev pub decreases-loop-share : goal.decreases-loop-share
decreases-loop-share g l = vec_len l.rest
