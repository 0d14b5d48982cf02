use Rattle.subtree_search.proofs.Trees.{IsNode-drawn}
use Rattle.subtree_search.proofs.estimating.estimate_node.Goals as goal

pub best_line-line-requires-clause-node : goal.best_line-line-requires-clause-node
best_line-line-requires-clause-node c =
    let drawn = c.in_ok-closes.ensures.left c.if-branch.false in
    IsNode-drawn _ _ _ _ c.begin.new.level.form _ _ _ c.in_ok-begin.ensures.node drawn.line

pub estimate-requires-clause-node : goal.estimate-requires-clause-node
estimate-requires-clause-node c =
    let drawn = c.in_ok-closes.ensures.left c.if-branch.false in
    IsNode-drawn _ _ _ _ c.begin.new.level.form _ _ _ c.in_ok-begin.ensures.node drawn.line
