use Rattle.std.proofs.Common.{ℤ, ap, subst, sym, arith, to_z, of_z, length}
use Rattle.std.specs.Int.{w128}
use Rattle.std.specs.Prelude.{◌↔◌}
use Rattle.std.proofs.lemmas.Int.{ints}
use Rattle.pair_duals.proofs.Seatings.{same_count}
use Rattle.pair_duals.specs.Seats.{child_at}
use Rattle.qap_cost.specs.Placement.{Placement}
use Rattle.proof_tree.specs.Valid.{IsClosed, ReachesBound, under}
use Rattle.proof_check.specs.Walk.{PushesLeaf}
use Rattle.proof_check.proofs.ClosedRefusals.{closed_is}
use Rattle.proof_check.proofs.Closing.{PushesLeaf-alone, PushesLeaf-none, PushesLeaf-same, far_read, scaled_read, value_judged}
use Rattle.proof_check.proofs.walking.check_cell.Goals as goal

pub child_node-requires-clause-row : goal.child_node-requires-clause-row
child_node-requires-clause-row c = omega (arith, c.requires.row, ap length c.requires.parent.rows, c.requires.parent.form.numbers.row_count)

pub child_node-requires-clause-column : goal.child_node-requires-clause-column
child_node-requires-clause-column c =
    omega (arith, c.requires.column, ap length c.requires.parent.columns, c.requires.parent.form.numbers.row_count, same_count c.args.parent.now.split.node.now c.requires.parent.placement)

pub returns-then-prunes : goal.returns-then-prunes
returns-then-prunes c =
    let j = c.args.judge.now in
    let p = c.args.parent.now in
    let enough = c.threshold-enough.result in
    let read = far_read enough c.threshold-enough.ensures.small in
    let above = c.prunes.ensures.0 c.if-prunes.true in
    PushesLeaf-alone j.instance.now j.step j.bound j.below j.cost j.enough (under p.duals.now p.form.now) c.args.h c.args.g _ enough c.args.leaves.now.items c.requires.judge
    (scaled_read j.step j.cost j.enough p.duals.now.scale enough c.requires.judge.high c.threshold-enough.ensures.value) (omega (arith, ints, read, above))

pub check_value-requires-clause-small : goal.check_value-requires-clause-small
check_value-requires-clause-small c =
    let small = c.in_ok-value.ensures.small in
    let read = far_read c.in_ok-value.value small in
    omega (arith, ints, read, small)

pub returns-then-value-enough : goal.returns-then-value-enough
returns-then-value-enough c =
    let j = c.args.judge.now in
    let p = c.args.parent.now in
    let I = j.instance.now in
    let now = under p.duals.now p.form.now in
    let h = c.args.h in
    let k = c.args.g in
    let z = c.in_ok-value.value in
    let enough = c.threshold-enough.result in
    let enough_read = far_read enough c.threshold-enough.ensures.small in
    let value_read = far_read z c.in_ok-value.ensures.small in
    let above = c.if-value-enough.true in
    let y = child_at p.split.node.now h k in
    let ls = c.args.leaves.now.items in
    let same : (b : ℤ) → ReachesBound j.step b now.duals.scale z ↔ IsClosed I j.step b now h k = λ b. let i = closed_is I j.step now h k c.child.new.child z b c.requires.row c.in_ok-child.ensures.child c.in_ok-value.ensures.value in (i.1, i.0) in
    PushesLeaf-same (λ b. ReachesBound j.step b now.duals.scale z) (λ b. IsClosed I j.step b now h k) j.bound j.cost y ls ls same
    (PushesLeaf-none j.step j.bound j.below j.cost j.enough now.duals.scale z y enough ls c.requires.judge (scaled_read j.step j.cost j.enough p.duals.now.scale enough c.requires.judge.high c.threshold-enough.ensures.value) (omega (arith, ints, enough_read, value_read, above)))

pub returns : goal.returns
returns c =
    let j = c.args.judge.now in
    let p = c.args.parent.now in
    let I = j.instance.now in
    let now = under p.duals.now p.form.now in
    let h = c.args.h in
    let k = c.args.g in
    let z = c.in_ok-value.value in
    let value_read = far_read z c.in_ok-value.ensures.small in
    let node = c.in_ok-node.node in
    let y = child_at p.split.node.now h k in
    let before = c.args.leaves.now.items in
    let after = c.check_value.new.leaves.items in
    let same : (b : ℤ) → ReachesBound j.step b now.duals.scale z ↔ IsClosed I j.step b now h k = λ b. let i = closed_is I j.step now h k c.child.new.child z b c.requires.row c.in_ok-child.ensures.child c.in_ok-value.ensures.value in (i.1, i.0) in
    value_judged c.check_value.result _ _ (ReachesBound j.step j.bound now.duals.scale (to_z w128 (of_z w128 z))) (IsClosed I j.step j.bound now h k)
    (λ pushed.
    PushesLeaf-same (λ b. ReachesBound j.step b now.duals.scale z) (λ b. IsClosed I j.step b now h k) j.bound j.cost y before after same
    (subst (λ (x : Placement). PushesLeaf (λ b. ReachesBound j.step b now.duals.scale z) j.bound j.cost x before after) c.in_ok-node.ensures
    (subst (λ (w : ℤ). PushesLeaf (λ b. ReachesBound j.step b now.duals.scale w) j.bound j.cost node before after) value_read pushed)))
    (λ closed. subst (ReachesBound j.step j.bound now.duals.scale) (sym value_read) ((closed_is I j.step now h k c.child.new.child z j.bound c.requires.row c.in_ok-child.ensures.child c.in_ok-value.ensures.value).0 closed))
    c.check_value.ensures
