use Rattle.std.proofs.Common.{◌∙◌, [], ap, below_more, sym}
use Rattle.std.specs.String.{string_bytes}
use Rattle.std.specs.Cmp.Lexicographic.{other_text, same_text}
use Rattle.std.proofs.lemmas.List.{get_or-map}
use Rattle.plan_table.proofs.departments.find_name.Goals as goal

pub returns-then-eq : goal.returns-then-eq
returns-then-eq c =
    let here = get_or-map string_bytes c.args.names.now c.loop-i.i c.index-names-i.result [] c.loop-i-test.true in
    (c.loop-i-test.true, here ∙ ap string_bytes (sym c.index-names-i.is) ∙ sym c.as_str.ensures.value ∙ same_text _ _ c.if-eq.ensures)

pub loop-i-preserved : goal.loop-i-preserved
loop-i-preserved c =
    let here = get_or-map string_bytes c.args.names.now c.loop-i.i c.index-names-i.result [] c.loop-i-test.true in
    below_more _ _ c.loop-i.invariant (λ e. other_text _ _ c.if-eq.ensures (c.as_str.ensures.value ∙ ap string_bytes c.index-names-i.is ∙ sym here ∙ e))
