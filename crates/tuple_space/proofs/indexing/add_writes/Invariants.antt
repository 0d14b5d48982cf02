use Rattle.std.proofs.Common.{◌≡◌, ◌+◌, ◌≤◌, ◌^◌, ℕ, drop, true}
use Rattle.std.specs.Prelude.{◌||◌}
use Rattle.tuple_space.specs.Index.{AreOnce, AreUpTo, Class, is_put, is_to_be}
use Rattle.tuple_space.specs.Writes.{put_count}
use Rattle.tuple_space.proofs.indexing.add_writes.Given as goal

abbrev pub invariant-loop-place : goal.invariant-loop-place
invariant-loop-place l = record {
  few : l.number + put_count (drop l.place l.writes) ≤ 2 ^ 62;
  ordered : AreUpTo l.number l.buckets.items;
  put : (class : Class) (n : ℕ)
      → (is_put class n l.buckets.items || is_to_be class n l.number (drop l.place l.writes)) ≡ (is_put class n l.initial.buckets.items || is_to_be class n l.last l.writes);
  later : (class : Class) (n : ℕ) → is_to_be class n l.number (drop l.place l.writes) ≡ true → is_to_be class n l.last l.writes ≡ true;
  once : AreOnce l.initial.buckets.items → AreOnce l.buckets.items;
}
