use Rattle.std.proofs.Common.{◌≡◌, ◌++◌, map}
use Rattle.std.specs.List.{range_with_len}
use Rattle.gilmore_lawler.specs.Ranking.{entry_with_column}
use Rattle.gilmore_lawler.specs.Table.{matrix_of}
use Rattle.gilmore_lawler.proofs.ranking.push_entries.Given as goal

abbrev pub invariant-loop-j : goal.invariant-loop-j
invariant-loop-j l =
    l.row.items ≡ l.fn.row.items ++ map (entry_with_column l.instance.size (matrix_of l.instance l.fn.side) l.i) (range_with_len 0 l.j)
