use Rattle.std.proofs.Common.{◌≡◌, ◌+◌, ◌≤◌, ◌++◌, length, take}
use Rattle.gilmore_lawler.specs.Ranking.{others_in}
use Rattle.gilmore_lawler.proofs.ranking.pick_others.Given as goal

abbrev pub invariant-loop-entry : goal.invariant-loop-entry
invariant-loop-entry l = record {
  count : length l.numbers ≡ length l.initial.numbers;
  room : l.place ≤ l.start + l.entry-index;
  picked : take l.place l.numbers ≡ take l.start l.initial.numbers ++ others_in l.is_free l.own (take l.entry-index l.row);
}
