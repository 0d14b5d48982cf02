use Rattle.std.proofs.Common.{◌≡◌, ◌∙◌, ap, length, rules, tests, unwrap_or}
use Rattle.std.proofs.lemmas.Int.{ints}
use Rattle.std.specs.List.{position}
use Rattle.std.proofs.lemmas.Iterator.{YieldsList-from_slice}
use Rattle.std.proofs.lemmas.Iterator.Search.{position_from_yields_List}
use Rattle.plan_answer.proofs.Putting.{costs_less, place_or_all}
use Rattle.plan_answer.proofs.pairs.place_of.Goals as goal

pub returns : goal.returns
returns c =
    let pairs = c.args.pairs.now in
    let found : c.position.result ≡ position (costs_less c.args.pair.now.cost) pairs =
    position_from_yields_List (costs_less c.args.pair.now.cost) _ _ _ c.position.ensures.ran (YieldsList-from_slice pairs cc) (λ x b q k. search (rules, tests, ints)) in
    c.unwrap_or.ensures ∙ ap (λ o. unwrap_or o (length pairs)) found ∙ place_or_all c.args.pair.now.cost pairs
