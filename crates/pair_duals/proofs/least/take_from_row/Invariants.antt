use Rattle.std.proofs.Common.{length, map}
use Rattle.pair_duals.specs.Filling.{FillsPart}
use Rattle.pair_duals.specs.Reduced.{less_own}
use Rattle.pair_duals.proofs.least.take_from_row.Given as goal

abbrev pub invariant-loop-c : goal.invariant-loop-c
invariant-loop-c g l =
    let value = g.N.Number.value in
    FillsPart (length l.v) (less_own (length l.v) (map value l.initial.entries) (value l.own) (map value l.v)) l.r l.c (map value l.initial.entries) (map value l.entries)
