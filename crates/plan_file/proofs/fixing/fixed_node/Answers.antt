use Rattle.std.proofs.Common.{◌≡◌, ◌∙◌, ◌+◌, ◌++◌, ◌∷◌, [], ap, map, string_bytes, subst, sym, take}
use Rattle.std.proofs.lemmas.List.{take_more}
use Rattle.plan_file.specs.Fixing.{AreFixed}
use Rattle.plan_file.proofs.Fixings.{AreFixed-more}
use Rattle.plan_file.proofs.fixing.fixed_node.Goals as goal

pub loop-pin-preserved : goal.loop-pin-preserved
loop-pin-preserved c =
    let pins = c.args.pins.now in
    let i = c.loop-pin.pin-index in
    let pin = c.pin-item.result in
    let more : take (i + 1) pins ≡ take i pins ++ pin ∷ [] = take_more pins i pin c.loop-pin-test.true ∙ ap (λ p. take i pins ++ p ∷ []) (sym c.pin-item.is) in
    let (f, k, department, place, placed) = c.in_ok-place_pin.ensures.placed in
    record {
      fixed =
          subst (λ l. AreFixed l (map string_bytes c.args.departments.now) (map string_bytes c.args.places.now) c.place_pin.new.node) (sym more)
          (AreFixed-more _ _ (take i pins) c.loop-pin.node c.place_pin.new.node pin f k c.loop-pin.invariant.fixed department place placed);
      placement = c.in_ok-place_pin.ensures.placement;
    }
