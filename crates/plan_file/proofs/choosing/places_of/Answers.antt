use Rattle.std.proofs.Common.{◌≡◌, ◌∙◌, ◌+◌, ◌++◌, ◌∷◌, ◌<◌, [], ap, ap₂, arith, length, map, rules, string_bytes, sym, take}
use Rattle.std.proofs.lemmas.List.{map-append, take_more}
use Rattle.toml.proofs.Views.{items_view-push}
use Rattle.toml.specs.Data.{push_item}
use Rattle.toml.specs.View.{items_view}
use Rattle.plan_file.specs.Keys.{strings_of}
use Rattle.plan_file.proofs.Fixings.{strings_push}
use Rattle.plan_file.proofs.choosing.places_of.Goals as goal

pub loop-i-preserved : goal.loop-i-preserved
loop-i-preserved c =
    let items = c.args.items.now in
    let i = c.loop-i.i in
    let places = c.loop-i.places.items in
    let item = c.index-items-i.result in
    let own = c.in_ok-place.place in
    let inside : i < length items = omega (arith, c.loop-i-test.true) in
    let more : take (i + 1) items ≡ take i items ++ item ∷ [] = take_more items i item inside ∙ ap (λ x. take i items ++ x ∷ []) (sym c.index-items-i.is) in
    let pushed : c.push.new.self.items ≡ places ++ own ∷ [] = search rules in
    ap items_view more
    ∙ items_view-push (take i items) item
    ∙ ap₂ push_item c.loop-i.invariant c.in_ok-place.ensures.place
    ∙ sym (strings_push (map string_bytes places) (string_bytes own))
    ∙ ap strings_of (sym (ap (map string_bytes) pushed ∙ map-append string_bytes places (own ∷ [])))
