use Rattle.std.proofs.Common.{arith}
use Rattle.space_txn.proofs.MarkLemmas.{found_at}
use Rattle.space_txn.proofs.MarkOrder.{unmarked_at}
use Rattle.space_txn.proofs.mark.mark_on.Goals as goal

pub returns-then-not-is_mark_at : goal.returns-then-not-is_mark_at
returns-then-not-is_mark_at c =
    let place = c.mark_place-place.ensures in
    unmarked_at c.args.number c.args.marks.now.items c.mark_place-place.result place.rising place.before place.at c.if-not-is_mark_at.ensures

pub returns : goal.returns
returns c =
    let place = c.mark_place-place.ensures in
    let here = c.if-not-is_mark_at.ensures in
    found_at c.args.number c.args.marks.now.items c.mark_place-place.result c.at.result.now (λ k d from to same. (let less = place.before k d from to in omega arith)) here.0 c.at.ensures here.1
