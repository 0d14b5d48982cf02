use Rattle.std.proofs.Common.{◌≡◌, ◌+◌}
use Rattle.std.specs.Prelude.{ℕ, All, replicate, vec_len}
use Rattle.std.specs.Arc.{arc_value}
use Rattle.qap_search.specs.Runs.Interleaving.{beginner}
use Rattle.qap_search.proofs.runs.schedule.posts_for.Given as goal

abbrev pub invariant-loop-share : goal.invariant-loop-share
invariant-loop-share g l = record {
  posts : l.posts.items ≡ replicate (vec_len l.posts) (beginner (arc_value l.fn.rows) 1000);
  count : vec_len l.posts + vec_len l.rest ≡ vec_len l.fn.shares;
  fresh : All (λ (n : ℕ). n ≡ 0) l.rest.items;
  worker : l.worker ≡ vec_len l.posts;
}

abbrev pub decreases-loop-share : goal.decreases-loop-share
decreases-loop-share g l = vec_len l.rest
