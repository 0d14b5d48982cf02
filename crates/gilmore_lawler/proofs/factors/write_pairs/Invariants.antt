use Rattle.std.proofs.Common.{◌≡◌, ◌+◌, ◌*◌, ◌++◌, length, take}
use Rattle.std.specs.List.{flat_map}
use Rattle.gilmore_lawler.specs.Table.{matrix_of, pair_with}
use Rattle.gilmore_lawler.proofs.factors.write_pairs.Given as goal

abbrev pub invariant-loop-other : goal.invariant-loop-other
invariant-loop-other l = record {
  count : length l.numbers ≡ length l.initial.numbers;
  at : l.place ≡ l.start + 2 * l.other-index;
  written : take l.place l.numbers ≡ take l.start l.initial.numbers ++ flat_map (pair_with l.instance.size (matrix_of l.instance l.fn.side) l.i) (take l.other-index l.others);
}
