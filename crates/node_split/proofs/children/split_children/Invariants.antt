use Rattle.std.proofs.Common.{◌≡◌, ℕ, ◌<◌}
use Rattle.std.specs.Prelude.{All}
use Rattle.subtree_search.specs.Lines.{child_on}
use Rattle.subtree_search.specs.Opens.{IsOpen, IsSettled}
use Rattle.node_split.specs.Branch.{line_of}
use Rattle.node_split.proofs.children.split_children.Given as goal

-- the children before this one are settled
abbrev pub invariant-loop-k : goal.invariant-loop-k
invariant-loop-k g l = record {
  same : l.evaluator.rows ≡ l.fn.evaluator.rows;
  opened : All (IsOpen l.fn.evaluator.rows 1 l.split.node.now) l.children.items;
  settled : (k : ℕ) → k < l.k → IsSettled l.fn.evaluator.rows l.split.node.now l.incumbent.cost l.children.items (child_on l.split.node.now (line_of l.split.branch) k);
}
