use Rattle.std.proofs.Common.{length, map}
use Rattle.pair_duals.specs.Filling.{FillsRows}
use Rattle.pair_duals.specs.Start.{own_entry}
use Rattle.pair_duals.proofs.start.fill_start.Given as goal

abbrev pub invariant-loop-r : goal.invariant-loop-r
invariant-loop-r g l =
    let value = g.N.Number.value in
    FillsRows (length l.duals.facilities) (own_entry l.instance l.duals l.node) l.r (map value l.initial.entries) (map value l.entries)
