use Rattle.std.proofs.Common.{◌≡◌}
use Rattle.std.specs.Prelude.{◌≤ℤ◌}
use Rattle.subtree_search.specs.Best.{IsIncumbent}
use Rattle.subtree_search.proofs.ground.Ground.estimate.Given as goal

abbrev pub invariant-dives : goal.invariant-dives
invariant-dives l = record {
  path : l.path ≡ l.fn.path;
  incumbent : IsIncumbent l.self.instance.now l.incumbent;
  no_worse : l.incumbent.cost ≤ℤ l.fn.incumbent.cost;
}
