use Rattle.std.proofs.Common.{take}
use Rattle.pair_duals.specs.Largest.{IsLargestOfRow}
use Rattle.pair_duals.proofs.scale.largest_of_row.Given as goal

abbrev pub invariant-loop-number : goal.invariant-loop-number
invariant-loop-number l = IsLargestOfRow (take l.number-index l.row) l.before l.largest
