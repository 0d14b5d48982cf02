use Rattle.std.proofs.Common.{ℤ, List, get_or, pos, ap, ap₂, ◌∙◌, arith}
use Rattle.std.specs.Prelude.{◌+ℤ◌, ◌-ℤ◌}
use Rattle.qap_cost.specs.Matrix.{dual_value, entry_of}
use Rattle.qap_proof.proofs.ChildValues.{IsAt-cell, Reaches-at, free_counts, sum_of_three, values_more}
use Rattle.qap_proof.specs.NodeLine.{pair_of}
use Rattle.qap_proof.specs.Tree.{facility_on, location_on}
use Rattle.qap_proof.specs.Valid.{Reaches}
use Rattle.qap_proof.proofs.reached.child_values.Goals as goal

pub excess-more-requires-clause-row : goal.excess-more-requires-clause-row
excess-more-requires-clause-row c =
    let x = c.args.node.now in
    let placement = c.own_place.ensures.placement in
    let at = IsAt-cell c.args.side x c.args.number c.in_ok-own.own c.loop-child.child c.cell-row.result.0 c.cell-row.result.1 placement c.in_ok-own.ensures.place
    (omega (arith, c.loop-child-test.true, c.size-free.ensures.value, c.requires.matrix_size)) c.cell-row.ensures in
    omega (arith, at.row_within, (free_counts x placement).0, c.requires.matrix_size)

pub excess-more-requires-clause-column : goal.excess-more-requires-clause-column
excess-more-requires-clause-column c =
    let x = c.args.node.now in
    let placement = c.own_place.ensures.placement in
    let at = IsAt-cell c.args.side x c.args.number c.in_ok-own.own c.loop-child.child c.cell-row.result.0 c.cell-row.result.1 placement c.in_ok-own.ensures.place
    (omega (arith, c.loop-child-test.true, c.size-free.ensures.value, c.requires.matrix_size)) c.cell-row.ensures in
    omega (arith, at.column_within, (free_counts x placement).1, c.requires.matrix_size)

pub returns-clause-each : goal.returns-clause-each
returns-clause-each c = let h = c.loop-child.invariant in λ child below. h.1 child (omega (arith, below, h.0))

pub loop-child-preserved : goal.loop-child-preserved
loop-child-preserved c =
    let I = c.args.instance.now in
    let x = c.args.node.now in
    let d = pair_of c.args.duals.now in
    let child = c.loop-child.child in
    let h = c.loop-child.invariant in
    let placement = c.own_place.ensures.placement in
    let at = IsAt-cell c.args.side x c.args.number c.in_ok-own.own child c.cell-row.result.0 c.cell-row.result.1 placement c.in_ok-own.ensures.place
    (omega (arith, c.loop-child-test.true, c.size-free.ensures.value, c.requires.matrix_size)) c.cell-row.ensures in
    let fixed = c.fixed_cost.ensures in
    let duals = c.dual_sum.ensures in
    let more = c.excess-more.ensures in
    let entry = entry_of c.args.matrix.now c.cell-row.result.0 c.cell-row.result.1 in
    let duals_is = ap₂ dual_value c.deref.ensures.value c.deref-2.ensures.value in
    let u_is = ap (λ (l : List ℤ). get_or l c.cell-row.result.0 (pos 0)) c.deref-in-loop-child.ensures.value in
    let v_is = ap (λ (l : List ℤ). get_or l c.cell-row.result.1 (pos 0)) c.deref-in-loop-child-2.ensures.value in
    values_more (λ j value. Reaches I x d (facility_on c.args.side x c.args.number j) (location_on c.args.side x c.args.number j) value) c.loop-child.values.items c.push.new.self.items child _ h.0 h.1 c.in_ok-push.ensures.items
    (Reaches-at I x c.args.matrix.now d (facility_on c.args.side x c.args.number child) (location_on c.args.side x c.args.number child) c.cell-row.result.0 c.cell-row.result.1 _ c.size-free.ensures.matrix c.requires.reduced c.requires.fits at
    (sum_of_three c.fixed_cost.result c.dual_sum.result c.excess-more.result fixed.bounded duals.bounded more.bounded
    ∙ ap₂ (λ y z. y +ℤ z) (ap₂ (λ y z. y +ℤ z) fixed.value (duals.value ∙ duals_is)) (more.value ∙ ap₂ (λ a b. entry -ℤ a -ℤ b) u_is v_is)))
