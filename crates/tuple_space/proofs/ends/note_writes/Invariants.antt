use Rattle.std.proofs.Common.{◌≡◌, ◌+◌, ◌≤◌, ◌^◌, drop}
use Rattle.tuple_space.specs.Ends.{AreWatched, KeepsEndings}
use Rattle.tuple_space.specs.Space.{SpaceValue}
use Rattle.tuple_space.specs.Writes.{put_count, put_each}
use Rattle.tuple_space.specs.declared.entry.Entry.{Entry}
use Rattle.tuple_space.proofs.ends.note_writes.Given as goal

abbrev pub invariant-loop-place : goal.invariant-loop-place
invariant-loop-place l = record {
  few : l.number + put_count (drop l.place l.writes) ≤ 2 ^ 62;
  kept : (e : Entry) → KeepsEndings l.initial.ends.rows l.ends.rows e;
  watched : (w : SpaceValue) → w.last ≡ l.last → w.moment ≡ l.moment → AreWatched l.initial.ends.rows l.moment w.entries
      → (v : SpaceValue) × (v.last ≡ l.number) × (v.moment ≡ l.moment) × AreWatched l.ends.rows l.moment v.entries × (put_each v (drop l.place l.writes) ≡ put_each w l.writes);
}
