use Rattle.std.proofs.Common.{◌-◌, map}
use Rattle.pair_duals.specs.Filling.{FillsPart}
use Rattle.pair_duals.specs.Reduced.{child_entry, count_of}
use Rattle.pair_duals.proofs.kept.add_kept_row.Given as goal

abbrev pub invariant-loop-c : goal.invariant-loop-c
invariant-loop-c g l =
    let value = g.N.Number.value in
    FillsPart (count_of l.parent - 1) (child_entry l.kept.problem l.kept.duals l.parent.rows l.parent.columns l.parent.entries l.seat.0 l.seat.1) l.r l.c (map value l.initial.entries) (map value l.entries)
