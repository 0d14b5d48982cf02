use Rattle.std.proofs.Common.{List, inr, subst}
use Rattle.std.specs.Prelude.{ℤ, codes}
use Rattle.qap_lines.specs.LineText.{line_text}
use Rattle.subtree_search.specs.Adding.{Adds}
use Rattle.subtree_search.proofs.Trees.{Extends-adds, HasTree-leaf, IsNode-drawn}
use Rattle.subtree_search.proofs.ground.Ground.closes_as_leaf.Goals as goal

pub closes_by_value-requires-clause-node : goal.closes_by_value-requires-clause-node
closes_by_value-requires-clause-node g c = IsNode-drawn _ _ _ _ c.args.level.now.form _ _ _ c.requires.node c.in_ok-draw_line.ensures.line

pub returns-then-branch-clause-recorded : goal.returns-then-branch-clause-recorded
returns-then-branch-clause-recorded g c = λ _.
    let drawn = c.in_ok-draw_line.ensures in
    let old = g.W.Record.holds c.args.proof.now in
    let new = g.W.Record.holds c.leaf.new.self in
    let added = subst (λ (us : List ℤ). Adds old new (line_text (codes "x") us)) c.u.ensures c.in_ok-leaf.ensures in
    HasTree-leaf c.args.self.now.instance.now c.args.self.now.duals.now c.args.self.now.step c.args.path.now c.args.level.now.form c.draw_line.new.self.form c.draw_line.new.self.u.items c.draw_line.new.self.v.items
    c.closes_by_value.new.incumbent.cost old new c.requires.node drawn.count drawn.range drawn.line (c.in_ok-closes_by_value.ensures.closed c.if-branch.true) added

pub returns-then-branch-clause-closed : goal.returns-then-branch-clause-closed
returns-then-branch-clause-closed g c = λ _.
    inr (record { lined = c.draw_line.new.self.form; u = c.draw_line.new.self.u.items; v = c.draw_line.new.self.v.items; line = c.in_ok-draw_line.ensures.line; reaches = c.in_ok-closes_by_value.ensures.closed c.if-branch.true })

pub returns-then-branch-clause-extended : goal.returns-then-branch-clause-extended
returns-then-branch-clause-extended g c = Extends-adds (g.W.Record.holds c.args.proof.now) (g.W.Record.holds c.leaf.new.self) _ c.in_ok-leaf.ensures

pub returns-clause-drawn : goal.returns-clause-drawn
returns-clause-drawn g c = λ _.
    let drawn = c.in_ok-draw_line.ensures in
    record { some = c.in_ok-closes_by_value.ensures.left c.if-branch.false; count = drawn.count; range = drawn.range; v = c.draw_line.new.self.v.items; line = drawn.line }
