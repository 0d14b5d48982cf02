use Rattle.std.proofs.Common.{map}
use Rattle.qap_cost.specs.Instance.{entry}
use Rattle.pair_duals.specs.Reduced.{IsLeast}
use Rattle.pair_duals.proofs.least.least_of_row.Given as goal

abbrev pub invariant-loop-c : goal.invariant-loop-c
invariant-loop-c g l =
    let value = g.N.Number.value in
    IsLeast (entry l.m (map value l.entries) l.r) l.c (value l.least)
