use Rattle.std.proofs.Common.{◌-◌, map}
use Rattle.pair_duals.specs.Filling.{FillsRows}
use Rattle.pair_duals.specs.Reduced.{child_entry, count_of}
use Rattle.pair_duals.proofs.kept.add_kept.Given as goal

abbrev pub invariant-loop-r : goal.invariant-loop-r
invariant-loop-r g l =
    let value = g.N.Number.value in
    FillsRows (count_of l.parent - 1) (child_entry l.kept.problem l.kept.duals l.parent.rows l.parent.columns l.parent.entries l.seat.0 l.seat.1) l.r (map value l.initial.entries) (map value l.entries)
