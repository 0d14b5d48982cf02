use Rattle.std.proofs.Common.{◌≡◌, ◌+◌, ◌≤◌, ◌^◌, ℕ, drop}
use Rattle.std.specs.Prelude.{◌&&◌, not}
use Rattle.tuple_space.specs.Index.{AreOnce, AreOrdered, Class, is_put, is_to_be}
use Rattle.tuple_space.specs.Writes.{put_count}
use Rattle.tuple_space.proofs.indexing.drop_writes.Given as goal

abbrev pub invariant-loop-place : goal.invariant-loop-place
invariant-loop-place l = record {
  few : l.number + put_count (drop l.place l.writes) ≤ 2 ^ 62;
  ordered : AreOrdered l.buckets.items;
  dropped : (class : Class) (n : ℕ)
      → (is_put class n l.buckets.items && not (is_to_be class n l.number (drop l.place l.writes))) ≡ (is_put class n l.initial.buckets.items && not (is_to_be class n l.last l.writes));
  once : AreOnce l.initial.buckets.items → AreOnce l.buckets.items;
}
