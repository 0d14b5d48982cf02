use Rattle.std.proofs.Common.{◌≡◌, ◌+◌, ◌-◌, ◌*◌, length}
use Rattle.tree_search.specs.Progress.{Advances}
use Rattle.tree_search.proofs.search.+searching.Given as goal

abbrev pub decreases-search : goal.decreases-search
decreases-search g l = 3 * (l.node.now.size - length l.node.now.facilities) + 2

abbrev pub decreases-search_children : goal.decreases-search_children
decreases-search_children g l = 3 * (l.node.now.size - length l.node.now.facilities) + 1

abbrev pub decreases-search_child : goal.decreases-search_child
decreases-search_child g l = 3 * (l.node.now.size - length l.node.now.facilities)

abbrev pub invariant-search_children-loop-child : goal.invariant-search_children-loop-child
invariant-search_children-loop-child g l = record {
  advances : Advances l.ground.instance.now l.ground.limit l.fn.progress l.progress;
  same : l.rows ≡ l.fn.rows;
}
