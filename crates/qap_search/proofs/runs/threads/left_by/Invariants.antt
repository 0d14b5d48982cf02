use Rattle.std.proofs.Common.{◌≡◌, ◌+◌, ◌≤◌}
use Rattle.std.specs.Prelude.{sum, vec_capacity, vec_len}
use Rattle.std.specs.List.{sum_by}
use Rattle.qap_search.proofs.runs.threads.left_by.Given as goal

abbrev pub invariant-loop-seat : goal.invariant-loop-seat
invariant-loop-seat g l = record {
  shares : vec_len l.shares + vec_len l.rest ≡ vec_len l.fn.seats;
  reports : vec_len l.reports + vec_len l.rest ≡ vec_len l.fn.seats;
  counted : sum_by (λ r. r.accepted) l.reports.items ≡ sum l.shares.items;
  room_for_shares : vec_len l.fn.seats ≤ vec_capacity l.shares;
  room_for_reports : vec_len l.fn.seats ≤ vec_capacity l.reports;
}

abbrev pub decreases-loop-seat : goal.decreases-loop-seat
decreases-loop-seat g l = vec_len l.rest
