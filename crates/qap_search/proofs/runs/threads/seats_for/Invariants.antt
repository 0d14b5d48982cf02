use Rattle.std.proofs.Common.{◌≡◌, ◌+◌}
use Rattle.std.specs.Prelude.{ℕ, All, vec_len}
use Rattle.qap_search.proofs.runs.threads.seats_for.Given as goal

abbrev pub invariant-loop-share : goal.invariant-loop-share
invariant-loop-share g l = record {
  count : vec_len l.seats + vec_len l.rest ≡ vec_len l.fn.shares;
  fresh : All (λ (n : ℕ). n ≡ 0) l.rest.items;
  worker : l.worker ≡ vec_len l.seats;
}

abbrev pub decreases-loop-share : goal.decreases-loop-share
decreases-loop-share g l = vec_len l.rest
