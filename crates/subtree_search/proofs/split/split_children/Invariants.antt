use Rattle.std.proofs.Common.{◌≡◌, ℕ, ◌<◌}
use Rattle.std.specs.Prelude.{All, ◌≤ℤ◌}
use Rattle.subtree_search.specs.Best.{IsIncumbent}
use Rattle.subtree_search.specs.Lines.{child_on}
use Rattle.subtree_search.specs.Needs.{NeedsTrial}
use Rattle.subtree_search.specs.Opens.{IsOpen, IsSettled}
use Rattle.subtree_search.proofs.split.split_children.Given as goal

-- the children before this one are settled
abbrev pub invariant-loop-k : goal.invariant-loop-k
invariant-loop-k g l = record {
  incumbent : IsIncumbent l.task.ground.now.instance.now l.incumbent;
  no_worse : l.incumbent.cost ≤ℤ l.fn.incumbent.cost;
  path : l.path ≡ l.fn.path;
  opened : All (IsOpen l.task.ground.now.instance.now l.task.ground.now.duals.now.scale l.fn.path) l.children.items;
  needed : All (NeedsTrial l.task.ground.now.instance.now l.task.ground.now.duals.now l.task.ground.now.step l.fn.path l.incumbent.cost l.fn.incumbent.cost) l.children.items;
  settled : (k : ℕ) → k < l.k → IsSettled l.task.ground.now.instance.now l.fn.path l.incumbent.cost l.children.items (child_on l.fn.path l.split.line k);
}
