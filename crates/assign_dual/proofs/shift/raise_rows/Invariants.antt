use Rattle.std.proofs.Common.{map}
use Rattle.assign_dual.specs.Steps.{RaisesRows}
use Rattle.assign_dual.proofs.shift.raise_rows.Given as goal

abbrev pub invariant-loop-p : goal.invariant-loop-p
invariant-loop-p g l =
    let value = g.N.Number.value in
    RaisesRows l.tree_rows (map value l.row_distances) l.p (value l.path_length) (map value l.initial.u) (map value l.u)
