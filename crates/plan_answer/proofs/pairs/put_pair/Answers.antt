use Rattle.std.proofs.Common.{SFits, w64, arith, ◌≡◌, ◌∙◌, ap, rules, true, take}
use Rattle.std.specs.Prelude.{insert, int_lt, pos}
use Rattle.std.proofs.lemmas.Int.{ints}
use Rattle.plan_answer.proofs.Putting.{kept_behind, kept_inserted, place, place_le}
use Rattle.plan_answer.proofs.pairs.put_pair.Goals as goal

pub insert-requires : goal.insert-requires
insert-requires c =
    let at : c.place_of-at.result ≡ place c.args.pair.cost c.args.pairs.now.items = c.place_of-at.ensures ∙ ap (place c.args.pair.cost) c.deref.ensures.value in
    omega (arith, place_le c.args.pair.cost c.args.pairs.now.items)

pub returns-in_ok-insert : goal.returns-in_ok-insert
returns-in_ok-insert c =
    let fits : SFits w64 c.args.pair.cost = search rules in
    let dear : int_lt (pos 0) c.args.pair.cost ≡ true = grind (arith, ints) in
    let at : c.place_of-at.result ≡ place c.args.pair.cost c.args.pairs.now.items = c.place_of-at.ensures ∙ ap (place c.args.pair.cost) c.deref.ensures.value in
    let inserted = ap (λ n. take c.args.most (insert c.args.pairs.now.items n c.args.pair)) at in
    c.truncate.ensures.items ∙ ap (take c.args.most) c.in_ok-insert.ensures.items ∙ inserted ∙ kept_inserted c.args.most c.args.pair c.args.pairs.now.items dear

pub returns-else-at-most : goal.returns-else-at-most
returns-else-at-most c =
    let fits : SFits w64 c.args.pair.cost = search rules in
    let dear : int_lt (pos 0) c.args.pair.cost ≡ true = grind (arith, ints) in
    let at : c.place_of-at.result ≡ place c.args.pair.cost c.args.pairs.now.items = c.place_of-at.ensures ∙ ap (place c.args.pair.cost) c.deref.ensures.value in
    kept_behind c.args.most c.args.pair c.args.pairs.now.items dear c.requires (omega arith)
