use Rattle.std.proofs.Common.{◌≡◌, ◌∙◌, ◌+◌, ◌++◌, ◌∷◌, ◌<◌, [], ap, ap₂, arith, length, length-append, map, rules, string_bytes, sym, take}
use Rattle.std.proofs.lemmas.List.{map-append, take_more}
use Rattle.toml.proofs.Views.{items_view-push}
use Rattle.toml.specs.Data.{push_item, string}
use Rattle.toml.specs.View.{items_view, view}
use Rattle.plan_file.specs.Keys.{strings_of}
use Rattle.plan_file.proofs.Fixings.{names_more, strings_push}
use Rattle.plan_file.proofs.names.names_of.Goals as goal

pub loop-i-preserved : goal.loop-i-preserved
loop-i-preserved c =
    let items = c.args.items.now in
    let i = c.loop-i.i in
    let names = c.loop-i.names.items in
    let item = c.index-items-i.result in
    let own = c.in_ok-name-2.name in
    let inside : i < length items = omega (arith, c.loop-i-test.true) in
    let more : take (i + 1) items ≡ take i items ++ item ∷ [] = take_more items i item inside ∙ ap (λ x. take i items ++ x ∷ []) (sym c.index-items-i.is) in
    let pushed : c.push.new.self.items ≡ names ++ own ∷ [] = search rules in
    let said : view item ≡ string (string_bytes own) = c.in_ok-name.ensures.name ∙ ap (λ s. string (string_bytes s)) (sym c.in_ok-name-2.ensures.name.0) in
    record {
      many = ap length pushed ∙ length-append names (own ∷ []) ∙ omega (arith, c.loop-i.invariant.many);
      items =
          ap items_view more
          ∙ items_view-push (take i items) item
          ∙ ap₂ push_item c.loop-i.invariant.items said
          ∙ sym (strings_push (map string_bytes names) (string_bytes own))
          ∙ ap strings_of (sym (ap (map string_bytes) pushed ∙ map-append string_bytes names (own ∷ [])));
      different = names_more names c.push.new.self.items own pushed c.loop-i.invariant.different (rw c.deref.ensures.value at c.in_ok-name-2.ensures.name.1);
    }
