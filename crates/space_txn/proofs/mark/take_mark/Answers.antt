use Rattle.std.proofs.Common.{◌≡◌, ◌∙◌, ap, get_or, length, refl, set, sym, true, arith}
use Rattle.std.proofs.lemmas.List.{get_or_default}
use Rattle.std.proofs.lemmas.Option.{same_Some, slice_get_read}
use Rattle.space_txn.specs.declared.mark.Mark.{Mark}
use Rattle.space_txn.proofs.MarkLemmas.{found_at, marked_at, with_mark_set}
use Rattle.space_txn.proofs.mark.take_mark.Goals as goal

pub take-requires : goal.take-requires
take-requires c =
    let place = c.mark_place-place.ensures in
    (marked_at c.args.number c.args.marks.now.items c.mark_place-place.result c.requires.rising c.requires.marked place.before place.at).0

pub returns : goal.returns
returns c = λ m found.
    let ms = c.args.marks.now.items in
    let n = c.args.number in
    let i = c.mark_place-place.result in
    let place = c.mark_place-place.ensures in
    let here = marked_at n ms i c.requires.rising c.requires.marked place.before place.at in
    let old : Mark = get_or ms i m in
    let is : old ≡ get_or ms i old = get_or_default ms i m old here.0 in
    let this : old ≡ m = same_Some old m (found_at n ms i old (λ k d from to. (λ same. (let less = place.before k d from to in omega arith))) here.0 is here.1 ∙ found) in
    let new : Mark = record m { taken = true; permanent = c.args.permanent } in
    let entry : m.entry ≡ n = ap (λ (x : Mark). x.entry) (sym this) ∙ here.1 m in
    c.take.ensures old (slice_get_read ms (length ms) i old refl here.0 is)
    ∙ ap (λ (x : Mark). set ms i (record x { taken = true; permanent = c.args.permanent })) this
    ∙ with_mark_set new ms i here.0 (λ k d from to. (let less = place.before k d from to in omega arith)) (λ d. here.1 d ∙ sym entry)
