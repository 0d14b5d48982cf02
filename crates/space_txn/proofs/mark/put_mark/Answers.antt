use Rattle.std.proofs.Common.{◌∙◌, arith}
use Rattle.space_txn.proofs.MarkLemmas.{with_mark_set, with_mark_insert}
use Rattle.space_txn.proofs.mark.put_mark.Goals as goal

pub returns-then-is_mark_at : goal.returns-then-is_mark_at
returns-then-is_mark_at c =
    let place = c.mark_place-place.ensures in
    let here = c.if-is_mark_at.ensures in
    c.set.ensures ∙ with_mark_set c.args.mark c.args.marks.now.items c.mark_place-place.result here.0 place.before here.1

pub returns : goal.returns
returns c =
    let place = c.mark_place-place.ensures in
    let other = c.if-is_mark_at.ensures in
    c.insert.ensures ∙ with_mark_insert c.args.mark c.args.marks.now.items c.mark_place-place.result place.within place.before
    (λ lt d. let most = place.at lt d in let ne = other lt d in omega arith)
