use Rattle.std.proofs.Common.{arith}
use Rattle.std.specs.Prelude.{IfOk, MatchBool}
use Rattle.pair_duals.specs.Seats.{child_at}
use Rattle.proof_tree.specs.Valid.{IsClosed, under}
use Rattle.proof_check.specs.Walk.{PushesLeaf}
use Rattle.proof_check.proofs.Closing.{cell_inside, of_cell}
use Rattle.proof_check.proofs.walking.check_closed.Goals as goal

pub check_cell-requires-clause-row : goal.check_cell-requires-clause-row
check_cell-requires-clause-row c = omega (arith, c.cell-h.ensures.row, (cell_inside _ _ _ _ _ _ _ _ c.args.child _ c.requires.parent c.requires.child).row)

pub check_cell-requires-clause-column : goal.check_cell-requires-clause-column
check_cell-requires-clause-column c = omega (arith, c.cell-h.ensures.column, (cell_inside _ _ _ _ _ _ _ _ c.args.child _ c.requires.parent c.requires.child).column)

pub returns : goal.returns
returns c =
    let j = c.args.judge.now in
    let p = c.args.parent.now in
    let now = under p.duals.now p.form.now in
    of_cell (λ h g. IfOk c.check_cell.result (λ closed. MatchBool closed (PushesLeaf (λ b. IsClosed j.instance.now j.step b now h g) j.bound j.cost (child_at p.split.node.now h g) c.args.leaves.now.items c.check_cell.new.leaves.items) (IsClosed j.instance.now j.step j.bound now h g → ⊥)))
    _ _ _ _ c.cell-h.ensures.row c.cell-h.ensures.column c.check_cell.ensures
