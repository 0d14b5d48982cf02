use Rattle.std.proofs.Common.{◌≡◌, ◌+◌, ◌≤◌, ◌++◌, length, vec_len}
use Rattle.std.specs.Prelude.{vec_capacity}
use Rattle.tuple_space.specs.Places.{items_in}
use Rattle.tuple_space.specs.Rows.{permanent_tuples}
use Rattle.tuple_space.proofs.permanent.permanent_of.Given as goal

abbrev pub invariant-loop-place : goal.invariant-loop-place
invariant-loop-place l = record {
  told : l.tuples.items ++ permanent_tuples (items_in l.place-iterator) ≡ permanent_tuples l.fn.entries.items;
  room : vec_len l.tuples + length (items_in l.place-iterator) ≤ vec_capacity l.tuples;
}
