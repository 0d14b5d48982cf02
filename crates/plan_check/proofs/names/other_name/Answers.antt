use Rattle.std.proofs.Common.{◌≡◌, ◌∙◌, ap, arith, below_more, length, map, Some, sym}
use Rattle.std.specs.Prelude.{slice_get, string_bytes}
use Rattle.std.proofs.lemmas.List.{length-map}
use Rattle.serde_json.specs.Data.{string}
use Rattle.serde_json.specs.View.{view}
use Rattle.plan_check.proofs.Reasons.{at_place, name_at, same_lists}
use Rattle.plan_check.proofs.names.other_name.Goals as goal

pub returns-then-not-is_text : goal.returns-then-not-is_text
returns-then-not-is_text c =
    let here = at_place view c.args.items.now c.loop-i.i c.index-items-i.result (omega arith) c.index-items-i.is in
    let there = name_at c.args.names.now c.loop-i.i c.index-names-i.result (omega arith) c.index-names-i.is in (
      omega arith,
      λ same.
          let equal : view c.index-items-i.result ≡ string (string_bytes c.index-names-i.result) = cc (here, there, same) in
          let yes = c.is_text.ensures.1 (equal ∙ ap string (sym c.as_str.ensures.value)) in
          absurd (cc (yes, c.if-not-is_text.true)),
    )

pub loop-i-preserved : goal.loop-i-preserved
loop-i-preserved c =
    let here = at_place view c.args.items.now c.loop-i.i c.index-items-i.result (omega arith) c.index-items-i.is in
    let there = name_at c.args.names.now c.loop-i.i c.index-names-i.result (omega arith) c.index-names-i.is in
    let equal = c.is_text.ensures.0 c.if-not-is_text.false ∙ ap string c.as_str.ensures.value in
    below_more (λ k. slice_get (map view c.args.items.now) k ≡ slice_get (map string (map string_bytes c.args.names.now)) k) c.loop-i.i c.loop-i.invariant
    (here ∙ ap Some equal ∙ sym there)

pub returns : goal.returns
returns c =
    let items = c.args.items.now in
    let names = c.args.names.now in
    let long : length (map view items) ≡ length (map string (map string_bytes names)) =
    omega (arith, length-map items view, length-map (map string_bytes names) string, length-map names string_bytes, c.requires) in
    same_lists (map view items) (map string (map string_bytes names)) long (λ k below. c.loop-i.invariant k (omega (arith, below, length-map items view, c.requires)))
