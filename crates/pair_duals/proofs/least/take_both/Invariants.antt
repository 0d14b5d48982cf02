use Rattle.std.proofs.Common.{map}
use Rattle.pair_duals.specs.Filling.{FillsRows}
use Rattle.pair_duals.specs.Reduced.{less_both}
use Rattle.pair_duals.proofs.least.take_both.Given as goal

abbrev pub invariant-loop-r : goal.invariant-loop-r
invariant-loop-r g l =
    let value = g.N.Number.value in
    FillsRows l.m (less_both l.m (map value l.initial.entries) (map value l.u) (map value l.v)) l.r (map value l.initial.entries) (map value l.entries)
