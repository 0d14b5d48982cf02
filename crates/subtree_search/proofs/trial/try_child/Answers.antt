use Rattle.std.proofs.Common.{refl, sym, ◌∙◌, ap, subst, arith}
use Rattle.qap_cost.specs.Placement.{Placement}
use Rattle.pair_duals.specs.Reduced.{Form, IsChild, count_of}
use Rattle.pair_duals.specs.Seats.{child_at}
use Rattle.proof_tree.proofs.Reaching.{IsNonNegative-line}
use Rattle.subtree_search.specs.Closed.{IsClosed}
use Rattle.subtree_search.specs.Opens.{IsOpenAt}
use Rattle.subtree_search.specs.Premises.{IsNode}
use Rattle.subtree_search.proofs.Closings.{IsClosed-tree, IsClosed-trivially}
use Rattle.subtree_search.proofs.Needing.{StaysOpen-child}
use Rattle.subtree_search.proofs.Progress.{back_at, column_within, row_within}
use Rattle.subtree_search.proofs.Trees.{HasKid-tree, HasKid-trivial, IsNode-drawn}
use Rattle.subtree_search.proofs.Tries.{IsBegun-left, at_child}
use Rattle.subtree_search.proofs.trial.try_child.Goals as goal

-- ---- the child's node

pub try_node-requires-clause-node : goal.try_node-requires-clause-node
try_node-requires-clause-node g c =
    subst (λ (S : Form). IsNode c.args.task.now.ground.now.instance.now c.args.task.now.ground.now.duals.now c.args.task.now.ground.now.step c.descend.new.path S) (sym c.closes_below.ensures.form) c.in_ok-descend.ensures.node

pub try_node-requires-clause-first : goal.try_node-requires-clause-first
try_node-requires-clause-first g c = ap (λ (S : Form). S.is_lined) c.closes_below.ensures.form ∙ c.in_ok-descend.ensures.first

pub try_node-requires-clause-room : goal.try_node-requires-clause-room
try_node-requires-clause-room g c =
    let rest = c.split_at_mut-first.ensures.back_len in
    let count = ap count_of c.closes_below.ensures.form in
    omega (arith, c.in_ok-descend.ensures.fewer, c.requires.room, rest, count)

-- ---- closed at once

pub returns-then-branch-clause-child : goal.returns-then-branch-clause-child
returns-then-branch-clause-child g c =
    let I = c.args.task.now.ground.now.instance.now in
    let D = c.args.task.now.ground.now.duals.now in
    let s = c.args.task.now.ground.now.step in
    let cost = c.closes_below.new.incumbent.cost in
    let at = at_child c.args.path.now c.descend.new.path c.args.split.now.line c.args.k c.row-h.result c.column-g.result c.in_ok-descend.ensures.path c.row-h.ensures c.column-g.ensures in
    subst (λ (x : Placement). IsClosed I x cost) at (IsClosed-trivially I D s c.descend.new.path c.descend.new.next.form cost c.in_ok-descend.ensures.node (c.in_ok-closes_below.ensures.closed c.if-branch.true))

pub returns-then-branch-clause-recorded : goal.returns-then-branch-clause-recorded
returns-then-branch-clause-recorded g c =
    let n = c.requires.node in
    let R = c.args.split.now.level.now.form in
    let line = c.args.split.now.line in
    let row = row_within (count_of R) c.args.k line c.requires.line c.requires.k_in in
    let column = column_within (count_of R) c.args.k line c.requires.line c.requires.k_in in
    HasKid-trivial c.args.task.now.ground.now.instance.now c.args.task.now.ground.now.duals.now c.args.task.now.ground.now.step c.args.path.now R c.descend.new.next.form line c.args.k c.closes_below.new.incumbent.cost
    (g.W.Record.ends c.args.split.now.marks) (g.W.Record.holds c.args.proof.now) c.row-h.result c.column-g.result n.sound.even n (omega (arith, row, c.row-h.ensures)) (omega (arith, column, c.column-g.ensures)) c.row-h.ensures c.column-g.ensures
    c.in_ok-descend.ensures.child (c.in_ok-closes_below.ensures.closed c.if-branch.true)

-- ---- closed by its trial

pub returns-then-is_closed-clause-child : goal.returns-then-is_closed-clause-child
returns-then-is_closed-clause-child g c =
    let I = c.args.task.now.ground.now.instance.now in
    let D = c.args.task.now.ground.now.duals.now in
    let s = c.args.task.now.ground.now.step in
    let n = c.requires.node in
    let S = c.closes_below.new.level.form in
    let cost = c.try_node.new.incumbent.cost in
    let old = g.W.Record.holds c.mark.new.self in
    let new = g.W.Record.holds c.try_node.new.proof in
    let here = subst (λ (S : Form). IsNode I D s c.descend.new.path S) (sym c.closes_below.ensures.form) c.in_ok-descend.ensures.node in
    let at = at_child c.args.path.now c.descend.new.path c.args.split.now.line c.args.k c.row-h.result c.column-g.result c.in_ok-descend.ensures.path c.row-h.ensures c.column-g.ensures in
    subst (λ (x : Placement). IsClosed I x cost) at (IsClosed-tree I D s c.descend.new.path S cost old new n.sound.even here (c.in_ok-is_closed.ensures.recorded c.if-is_closed.true))

pub returns-then-is_closed-clause-recorded : goal.returns-then-is_closed-clause-recorded
returns-then-is_closed-clause-recorded g c =
    let I = c.args.task.now.ground.now.instance.now in
    let D = c.args.task.now.ground.now.duals.now in
    let n = c.requires.node in
    let R = c.args.split.now.level.now.form in
    let line = c.args.split.now.line in
    let row = row_within (count_of R) c.args.k line c.requires.line c.requires.k_in in
    let column = column_within (count_of R) c.args.k line c.requires.line c.requires.k_in in
    let child = subst (IsChild I D R c.row-h.result c.column-g.result) (sym c.closes_below.ensures.form) c.in_ok-descend.ensures.child in
    HasKid-tree I D c.args.task.now.ground.now.step c.args.path.now c.descend.new.path R c.closes_below.new.level.form line c.args.k c.try_node.new.incumbent.cost (g.W.Record.ends c.args.split.now.marks) (g.W.Record.holds c.args.proof.now) (g.W.Record.holds c.mark.new.self)
    (g.W.Record.holds c.try_node.new.proof) c.row-h.result c.column-g.result n.sound.even n (omega (arith, row, c.row-h.ensures)) (omega (arith, column, c.column-g.ensures)) c.row-h.ensures c.column-g.ensures c.in_ok-descend.ensures.path child c.mark.ensures
    (c.in_ok-is_closed.ensures.recorded c.if-is_closed.true)

pub returns-then-is_closed-clause-path : goal.returns-then-is_closed-clause-path
returns-then-is_closed-clause-path g c = back_at c.args.path.now c.descend.new.path c.try_node.new.path c.pop-2.new.self c.row-h.result c.column-g.result c.in_ok-is_closed.ensures.path c.in_ok-descend.ensures.path c.pop-2.ensures

-- ---- left open

pub open_child-requires-clause-node : goal.open_child-requires-clause-node
open_child-requires-clause-node g c =
    let y = c.args.path.now in
    let back = back_at y c.descend.new.path c.try_node.new.path c.pop-2.new.self c.row-h.result c.column-g.result c.in_ok-is_closed.ensures.path c.in_ok-descend.ensures.path c.pop-2.ensures in
    subst (λ (z : Placement). IsNode c.args.task.now.ground.now.instance.now c.args.task.now.ground.now.duals.now c.args.task.now.ground.now.step z c.args.split.now.level.now.form) (sym back) c.requires.node

pub open_child-requires-clause-next : goal.open_child-requires-clause-next
open_child-requires-clause-next g c =
    let I = c.args.task.now.ground.now.instance.now in
    let D = c.args.task.now.ground.now.duals.now in
    let s = c.args.task.now.ground.now.step in
    let y = c.args.path.now in
    let h = c.row-h.result in
    let l = c.column-g.result in
    let drawn = c.in_ok-is_closed.ensures.drawn c.if-is_closed.false in
    let back = back_at y c.descend.new.path c.try_node.new.path c.pop-2.new.self h l c.in_ok-is_closed.ensures.path c.in_ok-descend.ensures.path c.pop-2.ensures in
    let at = subst (λ (S : Form). IsNode I D s c.descend.new.path S) (sym c.closes_below.ensures.form) c.in_ok-descend.ensures.node in
    let here = subst (λ (z : Placement). IsNode I D s z c.closes_below.new.level.form) c.in_ok-descend.ensures.path at in
    subst (λ (z : Placement). IsNode I D s (child_at z h l) c.try_node.new.level.form) (sym back) (IsNode-drawn I D s (child_at y h l) c.closes_below.new.level.form c.try_node.new.level.form _ _ here drawn.line)

pub open_child-requires-clause-least : goal.open_child-requires-clause-least
open_child-requires-clause-least g c =
    let drawn = c.in_ok-is_closed.ensures.drawn c.if-is_closed.false in
    IsNonNegative-line c.closes_below.new.level.form c.try_node.new.level.form _ _ drawn.line

pub returns-clause-child : goal.returns-clause-child
returns-clause-child g c =
    let I = c.args.task.now.ground.now.instance.now in
    let scale = c.args.task.now.ground.now.duals.now.scale in
    let y = c.args.path.now in
    let h = c.row-h.result in
    let l = c.column-g.result in
    let back = back_at y c.descend.new.path c.try_node.new.path c.pop-2.new.self h l c.in_ok-is_closed.ensures.path c.in_ok-descend.ensures.path c.pop-2.ensures in
    let at = subst (λ (z : Placement). IsOpenAt I scale z (child_at z h l) c.open_child.result) back c.open_child.ensures.opened in
    subst (λ (x : Placement). IsOpenAt I scale y x c.open_child.result) (at_child y (child_at y h l) c.args.split.now.line c.args.k h l refl c.row-h.ensures c.column-g.ensures) at

pub returns-clause-recorded : goal.returns-clause-recorded
returns-clause-recorded g c =
    IsBegun-left c.args.task.now.ground.now.instance.now c.args.task.now.ground.now.duals.now c.args.split.now.level.now.form c.descend.new.next.form c.args.split.now.line c.args.k c.row-h.result c.column-g.result (g.W.Record.ends c.args.split.now.marks)
    (g.W.Record.holds c.args.proof.now) (g.W.Record.holds c.mark.new.self) (g.W.Record.holds c.try_node.new.proof) c.row-h.ensures c.column-g.ensures c.in_ok-descend.ensures.child c.mark.ensures (c.in_ok-is_closed.ensures.left c.if-is_closed.false)

pub returns-clause-path : goal.returns-clause-path
returns-clause-path g c = back_at c.args.path.now c.descend.new.path c.try_node.new.path c.pop-2.new.self c.row-h.result c.column-g.result c.in_ok-is_closed.ensures.path c.in_ok-descend.ensures.path c.pop-2.ensures

pub returns-clause-left : goal.returns-clause-left
returns-clause-left g c =
    StaysOpen-child c.args.task.now.ground.now.instance.now c.args.task.now.ground.now.duals.now c.args.task.now.ground.now.step c.args.split.now.level.now.form c.descend.new.next.form c.args.split.now.line c.args.k c.row-h.result c.column-g.result
    c.args.incumbent.now.cost c.closes_below.new.incumbent.cost c.try_node.new.level.form.value c.open_child.result c.row-h.ensures c.column-g.ensures c.in_ok-descend.ensures.child (c.in_ok-closes_below.ensures.left c.if-branch.false)
    c.open_child.ensures.value (c.in_ok-is_closed.ensures.within c.if-is_closed.false) c.closes_below.ensures.no_worse
