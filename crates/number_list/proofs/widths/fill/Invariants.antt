use Rattle.std.proofs.Common.{◌≡◌, length, map, take}
use Rattle.number_list.proofs.widths.fill.Given as goal

abbrev pub invariant-loop-k : goal.invariant-loop-k
invariant-loop-k g l = record {
  count : length l.room ≡ length l.initial.room;
  filled : map g.W.Width.value (take l.k l.room) ≡ take l.k l.numbers;
}
