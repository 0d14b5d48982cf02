use Rattle.std.proofs.Common.{◌∙◌, [], ap, arith, below_more, refl, sym}
use Rattle.std.specs.String.{string_bytes}
use Rattle.std.specs.Cmp.Lexicographic.{other_text, same_text}
use Rattle.std.proofs.lemmas.List.{get_or-map, length-map}
use Rattle.plan_table.proofs.names.has_name.Goals as goal

pub returns-then-eq : goal.returns-then-eq
returns-then-eq c =
    let names = c.args.names.now in
    let k = c.loop-other.other-index in
    let here = get_or-map string_bytes names k c.other-item.result [] c.loop-other-test.true in (
      (λ _. (k, omega (arith, length-map names string_bytes), here ∙ ap string_bytes (sym c.other-item.is) ∙ sym c.as_str.ensures.value ∙ same_text _ _ c.if-eq.ensures)),
      (λ _. refl),
    )

pub loop-other-preserved : goal.loop-other-preserved
loop-other-preserved c =
    let here = get_or-map string_bytes c.args.names.now c.loop-other.other-index c.other-item.result [] c.loop-other-test.true in
    below_more _ _ c.loop-other.invariant (λ e. other_text _ _ c.if-eq.ensures (c.as_str.ensures.value ∙ ap string_bytes c.other-item.is ∙ sym here ∙ e))
