use Rattle.std.proofs.Common.{map}
use Rattle.assign_dual.proofs.Relaxing.{Relaxing}
use Rattle.assign_dual.proofs.tree.relax.Given as goal

abbrev pub invariant-loop-q : goal.invariant-loop-q
invariant-loop-q g l =
    let value = g.N.Number.value in
    Relaxing (map value l.row) (map value l.v) (value l.base) l.place l.q l.columns (map value l.initial.distances) l.initial.origins (map value l.distances) l.origins
