use Rattle.std.proofs.Common.{◌≡◌, ◌<◌, ◌^◌, drop}
use Rattle.tuple_space.specs.Slots.{word_value}
use Rattle.tuple_space.proofs.index.word_value.Given as goal

abbrev pub invariant-loop-place : goal.invariant-loop-place
invariant-loop-place l = record {
  is : l.value ≡ word_value (drop l.place l.word);
  few : l.value < 2 ^ 64;
}
