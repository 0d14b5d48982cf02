use Rattle.std.proofs.Common.{map}
use Rattle.pair_duals.proofs.Leasts.{LowersPart}
use Rattle.pair_duals.proofs.least.lower.Given as goal

abbrev pub invariant-loop-c : goal.invariant-loop-c
invariant-loop-c g l =
    let value = g.N.Number.value in
    LowersPart (map value l.entries) l.start (value l.own) l.c (map value l.initial.least) (map value l.least)
