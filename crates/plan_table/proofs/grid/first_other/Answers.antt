use Rattle.std.proofs.Common.{◌∙◌, [], ap, below_more, map, subst, sym}
use Rattle.std.specs.String.{string_bytes}
use Rattle.std.proofs.lemmas.List.{get_or-map}
use Rattle.plan_table.specs.Names.{HasName}
use Rattle.plan_table.proofs.grid.first_other.Goals as goal

pub returns-then-not-has_name : goal.returns-then-not-has_name
returns-then-not-has_name c =
    let here = get_or-map string_bytes c.args.names.now c.loop-k.k c.index-names-k.result [] c.loop-k-test.true in
    let name = here ∙ ap string_bytes (sym c.index-names-k.is) ∙ sym c.as_str.ensures.value in (
      c.loop-k-test.true,
      (λ has. absurd (let differs = sym c.if-not-has_name.true ∙ c.has_name.ensures.1 (subst (HasName (map string_bytes c.args.others.now)) name has) in cc)),
    )

pub loop-k-preserved : goal.loop-k-preserved
loop-k-preserved c =
    let here = get_or-map string_bytes c.args.names.now c.loop-k.k c.index-names-k.result [] c.loop-k-test.true in
    let name = here ∙ ap string_bytes (sym c.index-names-k.is) ∙ sym c.as_str.ensures.value in
    below_more _ _ c.loop-k.invariant (subst (HasName (map string_bytes c.args.others.now)) (sym name) (c.has_name.ensures.0 c.if-not-has_name.false))
