use Rattle.std.proofs.Common.{◌∙◌, subst, sym, arith}
use Rattle.std.proofs.lemmas.Int.{ints}
use Rattle.qap_cost.specs.Placement.{Placement}
use Rattle.subtree_search.specs.Outcomes.{ClosesSplit}
use Rattle.subtree_search.specs.Premises.{IsNode}
use Rattle.subtree_search.specs.Recorded.{HasSplit}
use Rattle.subtree_search.proofs.Trees.{HasTree-split, IsNode-drawn}
use Rattle.subtree_search.proofs.trial.try_node.Goals as goal

pub is_hopeless-requires-clause-node : goal.is_hopeless-requires-clause-node
is_hopeless-requires-clause-node g c = let drawn = c.in_ok-closes_as_leaf.ensures.drawn c.if-branch.false in IsNode-drawn _ _ _ _ c.args.level.now.form _ _ _ c.requires.node drawn.line

pub explore_children-requires-clause-node : goal.explore_children-requires-clause-node
explore_children-requires-clause-node g c =
    let drawn = c.in_ok-closes_as_leaf.ensures.drawn c.if-branch.false in
    let at_node = λ (y : Placement). IsNode c.args.task.now.ground.now.instance.now c.args.task.now.ground.now.duals.now c.args.task.now.ground.now.step y c.closes_as_leaf.new.level.form in
    subst at_node (sym c.in_ok-is_hopeless.ensures.path) (IsNode-drawn _ _ _ _ c.args.level.now.form _ _ _ c.requires.node drawn.line)

pub explore_children-requires-clause-drawn : goal.explore_children-requires-clause-drawn
explore_children-requires-clause-drawn g c = (c.args.level.now.form, c.in_ok-closes_as_leaf.ensures.drawn c.if-branch.false)

pub returns-then-is_requested-clause-left : goal.returns-then-is_requested-clause-left
returns-then-is_requested-clause-left g c = λ _ t h. subst (λ p. g.W.Record.holds p t) (sym (c.in_ok-closes_as_leaf.ensures.left c.if-branch.false)) h

pub returns-in-Closed-clause-recorded : goal.returns-in-Closed-clause-recorded
returns-in-Closed-clause-recorded g c = λ _.
    let drawn = c.in_ok-closes_as_leaf.ensures.drawn c.if-branch.false in
    let I = c.args.task.now.ground.now.instance.now in
    let D = c.args.task.now.ground.now.duals.now in
    let S = c.closes_as_leaf.new.level.form in
    let u = c.closes_as_leaf.new.level.u.items in
    let cost = c.explore_children.new.incumbent.cost in
    let old = g.W.Record.holds c.args.proof.now in
    let mid = g.W.Record.holds c.closes_as_leaf.new.proof in
    let new = g.W.Record.holds c.explore_children.new.proof in
    let limit = c.saturating_add.result in
    let says = g.S.Stop.says c.args.task.now.stop.now in
    let best = c.explore_children.new.incumbent in
    let nodes = c.explore_children.new.nodes in
    let found : ClosesSplit I D c.is_hopeless.new.path S u limit says best nodes mid new c.in_ok-explore_children.field-0 = c.in_ok-explore_children.ensures.outcome in
    let split : HasSplit I D c.is_hopeless.new.path S u cost mid new = subst (ClosesSplit I D c.is_hopeless.new.path S u limit says best nodes mid new) c.in-Closed.is found in
    let here : HasSplit I D c.args.path.now S u cost mid new = subst (λ (y : Placement). HasSplit I D y S u cost mid new) c.in_ok-is_hopeless.ensures.path split in
    let from : HasSplit I D c.args.path.now S u cost old new = subst (λ p. HasSplit I D c.args.path.now S u cost (g.W.Record.holds p) new) (c.in_ok-closes_as_leaf.ensures.left c.if-branch.false) here in
    HasTree-split I D c.args.task.now.ground.now.step c.args.path.now c.args.level.now.form S u drawn.v cost old new c.requires.node drawn.count drawn.range drawn.line from

pub returns-in-Closed-clause-no_worse : goal.returns-in-Closed-clause-no_worse
returns-in-Closed-clause-no_worse g c =
    let one = c.closes_as_leaf.ensures.no_worse in
    let two = c.is_hopeless.ensures.no_worse in
    let three = c.explore_children.ensures.advances.no_worse in
    omega (arith, ints, one, two, three)

pub returns-in_default-clause-drawn : goal.returns-in_default-clause-drawn
returns-in_default-clause-drawn g c = λ _. c.in_ok-closes_as_leaf.ensures.drawn c.if-branch.false

-- what the search added is dropped
pub returns-in_default-clause-left : goal.returns-in_default-clause-left
returns-in_default-clause-left g c = λ _ t h.
    let before = subst (λ p. g.W.Record.holds p t) (sym (c.in_ok-closes_as_leaf.ensures.left c.if-branch.false)) h in
    let more = c.in_ok-explore_children.ensures.extended.each t before in
    c.set_back.ensures t more.0 (c.end-place.ensures t before) more.1

pub returns-in_default-clause-path : goal.returns-in_default-clause-path
returns-in_default-clause-path g c = c.in_ok-explore_children.ensures.path ∙ c.in_ok-is_hopeless.ensures.path

pub returns-in_default-clause-incumbent : goal.returns-in_default-clause-incumbent
returns-in_default-clause-incumbent g c = c.explore_children.ensures.advances.incumbent

pub returns-in_default-clause-no_worse : goal.returns-in_default-clause-no_worse
returns-in_default-clause-no_worse g c =
    let one = c.closes_as_leaf.ensures.no_worse in
    let two = c.is_hopeless.ensures.no_worse in
    let three = c.explore_children.ensures.advances.no_worse in
    omega (arith, ints, one, two, three)
