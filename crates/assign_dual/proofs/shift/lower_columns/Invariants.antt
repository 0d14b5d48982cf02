use Rattle.std.proofs.Common.{map}
use Rattle.assign_dual.specs.Steps.{LowersColumns}
use Rattle.assign_dual.proofs.shift.lower_columns.Given as goal

abbrev pub invariant-loop-q : goal.invariant-loop-q
invariant-loop-q g l =
    let value = g.N.Number.value in
    LowersColumns l.columns (map value l.distances) l.q (value l.path_length) (map value l.initial.v) (map value l.v)
