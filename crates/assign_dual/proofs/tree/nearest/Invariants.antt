use Rattle.std.proofs.Common.{ℕ, ◌<◌, ◌≤◌, get_or, pos, length, map}
use Rattle.std.specs.Prelude.{◌≤ℤ◌}
use Rattle.assign_dual.proofs.tree.nearest.Given as goal

abbrev pub invariant-loop-q : goal.invariant-loop-q
invariant-loop-q g l = record {
  from_done : l.done ≤ l.q;
  order : l.q ≤ l.best;
  within : l.best < length l.columns;
  nearest : (s : ℕ) → l.q ≤ s → s < length l.columns → get_or (map g.N.Number.value l.distances) (get_or l.columns l.best 0) (pos 0) ≤ℤ get_or (map g.N.Number.value l.distances) (get_or l.columns s 0) (pos 0);
}

abbrev pub decreases-loop-q : goal.decreases-loop-q
decreases-loop-q g l = l.q
