use Rattle.std.proofs.Common.{length, map}
use Rattle.pair_duals.specs.Filling.{FillsPart}
use Rattle.pair_duals.specs.Start.{own_entry}
use Rattle.pair_duals.proofs.start.fill_start_row.Given as goal

abbrev pub invariant-loop-c : goal.invariant-loop-c
invariant-loop-c g l =
    let value = g.N.Number.value in
    FillsPart (length l.duals.facilities) (own_entry l.instance l.duals l.node) l.r l.c (map value l.initial.entries) (map value l.entries)
