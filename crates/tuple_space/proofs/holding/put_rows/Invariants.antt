use Rattle.std.proofs.Common.{◌≡◌, ◌+◌, ◌^◌, ◌≤◌, drop, length}
use Rattle.std.specs.Prelude.{All}
use Rattle.tuple_space.specs.Space.{space_of}
use Rattle.tuple_space.specs.Places.{items_in}
use Rattle.tuple_space.specs.Writes.{put_count, put_each}
use Rattle.tuple_space.proofs.holding.put_rows.Given as goal

abbrev pub invariant-loop-place : goal.invariant-loop-place
invariant-loop-place l = record {
  same : put_each (space_of l.entries.items l.moment l.number) (items_in (drop l.place l.rows.items))
      ≡ put_each (space_of l.fn.entries.items l.moment l.last) (items_in l.fn.rows.items);
  few : l.number + put_count (items_in (drop l.place l.rows.items)) ≤ 2 ^ 62;
  room : put_count (items_in (drop l.place l.rows.items)) ≤ l.entries.room;
  new : All (λ e. e.number ≤ l.number) l.entries.items;
  places : length l.rows.items ≡ length l.fn.rows.items;
  memory : l.rows.capacity ≡ l.fn.rows.capacity;
}
