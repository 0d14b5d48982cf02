use Rattle.std.proofs.Common.{map}
use Rattle.pair_duals.proofs.Leasts.{HasRowLeasts}
use Rattle.pair_duals.proofs.least.least_of_rows.Given as goal

abbrev pub invariant-loop-r : goal.invariant-loop-r
invariant-loop-r g l =
    let value = g.N.Number.value in
    HasRowLeasts l.m (map value l.entries) l.r (map value l.u)
