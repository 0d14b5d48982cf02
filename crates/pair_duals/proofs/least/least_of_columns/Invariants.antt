use Rattle.std.proofs.Common.{map}
use Rattle.pair_duals.proofs.Leasts.{HasTaken}
use Rattle.pair_duals.proofs.least.least_of_columns.Given as goal

abbrev pub invariant-loop-r : goal.invariant-loop-r
invariant-loop-r g l =
    let value = g.N.Number.value in
    HasTaken l.m (map value l.entries) (map value l.u) l.r (map value l.v)
