use Rattle.std.proofs.Common.{◌-◌, ◌*◌, length, ap, arith}
use Rattle.proof_check.proofs.Layers.{row_count}
use Rattle.proof_check.proofs.listed.number_at.Goals as goal
use Rattle.proof_check.proofs.listed.number_at.Goals.{then-other-own-2, else-other-own-2}

pub index-requires : goal.index-requires
index-requires c =
    let rows = c.args.rows.now in
    let inside = c.requires.row_in in
    let count = row_count rows (2 * (c.args.m - 1)) c.args.row c.index-rows-row.result c.requires.each (omega (arith, c.requires.count, inside)) in
    let same = ap (λ row. length row.items) c.index-rows-row.is in
    elim c.if-other-own-2.branch [
      | then-other-own-2 w ↦ omega (arith, count, same, w.place-is, w.if-other-own-2.true, c.requires.own_in, c.requires.start_in)
      | else-other-own-2 w ↦ omega (arith, count, same, w.place-is, w.if-other-own-2.false, c.requires.other_in, c.requires.start_in, c.if-other-own.false)
    ]
