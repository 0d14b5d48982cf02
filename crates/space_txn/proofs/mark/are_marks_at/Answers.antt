use Rattle.space_txn.specs.Marks.{mark_in}
use Rattle.space_txn.proofs.MarkLemmas.{Tracks-back, Tracks-forth}
use Rattle.space_txn.proofs.mark.are_marks_at.Goals as goal

pub returns : goal.returns
returns c =
    let mark = mark_in c.args.number c.args.space.now.entries in
    let marks = c.args.marks.now.items in
    let rows = c.args.rows.now in
    let behind = c.loop-row.invariant in
    rw c.len.ensures.len (Tracks-forth mark marks rows c.loop-row.place c.loop-row.row-index c.loop-row-test.false behind.tracks, Tracks-back mark marks rows c.loop-row.place c.loop-row.row-index c.loop-row-test.false behind.within behind.tracks)
