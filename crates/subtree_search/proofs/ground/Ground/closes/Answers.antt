use Rattle.std.proofs.Common.{◌≡◌, subst}
use Rattle.std.specs.Prelude.{length}
use Rattle.pair_duals.specs.Reduced.{Form, IsLine, count_of}
use Rattle.proof_tree.proofs.Reaching.{IsNonNegative-line}
use Rattle.subtree_search.proofs.Closings.{IsClosed-by_value, IsClosed-trivially}
use Rattle.subtree_search.proofs.Trees.{IsNode-drawn}
use Rattle.subtree_search.proofs.ground.Ground.closes.Goals as goal

pub returns-then-branch-clause-closed : goal.returns-then-branch-clause-closed
returns-then-branch-clause-closed c = λ _.
    IsClosed-trivially c.args.self.now.instance.now c.args.self.now.duals.now c.args.self.now.step c.args.path.now c.args.level.now.form c.closes_at_once.new.incumbent.cost c.requires.node (c.in_ok-closes_at_once.ensures.closed c.if-branch.true)

pub closes_by_value-requires-clause-node : goal.closes_by_value-requires-clause-node
closes_by_value-requires-clause-node c =
    let R = c.args.level.now.form in
    let line = subst (λ (S : Form). IsLine S c.draw_line.new.self.form c.draw_line.new.self.u.items c.draw_line.new.self.v.items) c.closes_at_once.ensures.form c.in_ok-draw_line.ensures.line in
    IsNode-drawn _ _ _ _ R _ _ _ c.requires.node line

pub returns-clause-closed : goal.returns-clause-closed
returns-clause-closed c = λ closes.
    let R = c.args.level.now.form in
    let S = c.draw_line.new.self.form in
    let line = subst (λ (S : Form). IsLine S c.draw_line.new.self.form c.draw_line.new.self.u.items c.draw_line.new.self.v.items) c.closes_at_once.ensures.form c.in_ok-draw_line.ensures.line in
    IsClosed-by_value c.args.self.now.instance.now c.args.self.now.duals.now c.args.self.now.step c.args.path.now S c.closes_by_value.new.incumbent.cost (IsNode-drawn _ _ _ _ R S _ _ c.requires.node line)
    (IsNonNegative-line R S _ _ line) (c.in_ok-closes.ensures.closed closes)

pub returns-clause-left : goal.returns-clause-left
returns-clause-left c = λ left.
    let R = c.args.level.now.form in
    let line = subst (λ (S : Form). IsLine S c.draw_line.new.self.form c.draw_line.new.self.u.items c.draw_line.new.self.v.items) c.closes_at_once.ensures.form c.in_ok-draw_line.ensures.line in
    let count = subst (λ (S : Form). length c.draw_line.new.self.u.items ≡ count_of S) c.closes_at_once.ensures.form c.in_ok-draw_line.ensures.count in
    record { some = c.in_ok-closes.ensures.left left; count = count; range = c.in_ok-draw_line.ensures.range; v = c.draw_line.new.self.v.items; line = line }
