use Rattle.std.proofs.Common.{map}
use Rattle.pair_duals.proofs.Leasts.{TakesPart}
use Rattle.pair_duals.proofs.least.take_row.Given as goal

abbrev pub invariant-loop-c : goal.invariant-loop-c
invariant-loop-c g l =
    let value = g.N.Number.value in
    TakesPart (map value l.entries) (value l.own) l.c (map value l.least)
