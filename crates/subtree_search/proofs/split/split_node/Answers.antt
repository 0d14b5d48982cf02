use Rattle.std.proofs.Common.{subst, arith}
use Rattle.std.specs.Prelude.{All}
use Rattle.std.proofs.lemmas.Int.{ints}
use Rattle.qap_cost.specs.Placement.{Placement}
use Rattle.subtree_search.specs.Needs.{NeedsTrial}
use Rattle.subtree_search.specs.Opens.{IsOpen, IsSettled}
use Rattle.proof_tree.proofs.Reaching.{IsNonNegative-line}
use Rattle.subtree_search.proofs.Closings.{IsClosed-by_form}
use Rattle.subtree_search.proofs.Trees.{IsNode-drawn}
use Rattle.subtree_search.proofs.Needing.{All-wider, IsLined-drawn}
use Rattle.subtree_search.proofs.Settling.{IsSettled-closed}
use Rattle.subtree_search.proofs.split.split_node.Goals as goal

pub returns-then-branch-clause-settled : goal.returns-then-branch-clause-settled
returns-then-branch-clause-settled g c =
    let I = c.args.task.now.ground.now.instance.now in
    let y = c.begin.new.path in
    let cost = c.closes_as_leaf.new.incumbent.cost in
    subst (λ (z : Placement). IsSettled I z cost c.new.result.items z) c.in_ok-begin.ensures.path (IsSettled-closed I y y cost c.new.result.items (IsClosed-by_form I c.args.task.now.ground.now.duals.now c.args.task.now.ground.now.step y c.begin.new.level.form cost c.in_ok-begin.ensures.node (c.in_ok-closes_as_leaf.ensures.closed c.if-branch.true)))

pub returns-clause-no_worse : goal.returns-clause-no_worse
returns-clause-no_worse g c = let one = c.closes_as_leaf.ensures.no_worse in let other = c.split_children.ensures.no_worse in omega (arith, ints, one, other)

pub split_children-requires-clause-node : goal.split_children-requires-clause-node
split_children-requires-clause-node g c = let drawn = c.in_ok-closes_as_leaf.ensures.drawn c.if-branch.false in IsNode-drawn _ _ _ _ c.begin.new.level.form _ _ _ c.in_ok-begin.ensures.node drawn.line

pub split_children-requires-clause-least : goal.split_children-requires-clause-least
split_children-requires-clause-least g c = let drawn = c.in_ok-closes_as_leaf.ensures.drawn c.if-branch.false in IsNonNegative-line c.begin.new.level.form _ _ _ drawn.line

pub split_children-requires-clause-lined : goal.split_children-requires-clause-lined
split_children-requires-clause-lined g c =
    let begun = c.in_ok-begin.ensures in
    IsLined-drawn c.args.task.now.ground.now.instance.now c.args.task.now.ground.now.duals.now c.begin.new.path c.args.node.now c.begin.new.level.form c.closes_as_leaf.new.level.form c.closes_as_leaf.new.level.u.items begun.path begun.start (c.in_ok-closes_as_leaf.ensures.drawn c.if-branch.false)

pub returns-clause-needed : goal.returns-clause-needed
returns-clause-needed g c =
    let I = c.args.task.now.ground.now.instance.now in
    let D = c.args.task.now.ground.now.duals.now in
    let s = c.args.task.now.ground.now.step in
    let least = c.split_children.new.incumbent.cost in
    let most = c.closes_as_leaf.new.incumbent.cost in
    let children = c.in_ok-children.children.items in
    let here = subst (λ (z : Placement). All (NeedsTrial I D s z least most) children) c.in_ok-begin.ensures.path c.in_ok-children.ensures.needed in
    All-wider I D s c.args.node.now least most least c.args.incumbent.now.cost children (omega (arith, ints)) c.closes_as_leaf.ensures.no_worse here

pub returns-clause-opened : goal.returns-clause-opened
returns-clause-opened g c =
    subst (λ (z : Placement). All (IsOpen c.args.task.now.ground.now.instance.now c.args.task.now.ground.now.duals.now.scale z) c.in_ok-children.children.items) c.in_ok-begin.ensures.path c.in_ok-children.ensures.opened
