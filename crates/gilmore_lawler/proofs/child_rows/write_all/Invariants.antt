use Rattle.std.proofs.Common.{◌≡◌, ◌+◌, ◌++◌, length, take}
use Rattle.gilmore_lawler.proofs.child_rows.write_all.Given as goal

abbrev pub invariant-loop-j : goal.invariant-loop-j
invariant-loop-j l = record {
  count : length l.numbers ≡ length l.initial.numbers;
  written : take (l.start + l.j) l.numbers ≡ take l.start l.initial.numbers ++ take l.j l.xs;
}
