use Rattle.std.proofs.Common.{◌≡◌, ◌<◌, ◌≤◌, ◌≤ℤ◌, ◌<ℤ◌}
use Rattle.tree_search.proofs.open.bound_shown.Given as goal

-- the bound is below the cost once a value was
abbrev pub invariant-loop-value : goal.invariant-loop-value
invariant-loop-value l = record {
  counted : l.open_nodes ≤ l.value-index;
  at_most : l.bound ≤ℤ l.cost;
  none : l.open_nodes ≡ 0 → l.bound ≡ l.cost;
  some : 0 < l.open_nodes → l.bound <ℤ l.cost;
}
