use Rattle.std.proofs.Common.{◌≡◌}
use Rattle.std.specs.Prelude.{◌≤ℤ◌}
use Rattle.pair_duals.specs.Reduced.{count_of}
use Rattle.subtree_search.specs.Best.{IsIncumbent}
use Rattle.subtree_search.specs.Lines.{IsLineOf}
use Rattle.subtree_search.proofs.ground.Ground.sampled_line.Given as goal

abbrev pub invariant-loop-rank : goal.invariant-loop-rank
invariant-loop-rank l = record {
  path : l.path ≡ l.fn.path;
  incumbent : IsIncumbent l.self.instance.now l.incumbent;
  no_worse : l.incumbent.cost ≤ℤ l.fn.incumbent.cost;
  line : IsLineOf (count_of l.level.form) l.best;
}
