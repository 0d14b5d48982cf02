use Rattle.std.proofs.Common.{◌≡◌, ◌+◌, ◌≤◌, drop}
use Rattle.tuple_space.specs.Writes.{put_count}
use Rattle.tuple_space.proofs.holding.count_puts.Given as goal

abbrev pub invariant-loop-place : goal.invariant-loop-place
invariant-loop-place l = record {
  counted : l.count + put_count (drop l.place l.writes) ≡ put_count l.writes;
  few : l.count ≤ l.place;
}
