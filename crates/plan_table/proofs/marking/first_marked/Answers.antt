use Rattle.std.proofs.Common.{◌≡◌, ◌∙◌, [], ap, arith, get_or, inl, inr, map, subst, sym}
use Rattle.std.proofs.lemmas.Bool.{cases_lt}
use Rattle.std.proofs.lemmas.List.{get_or-map}
use Rattle.csv.specs.Records.{fields_of}
use Rattle.plan_table.specs.Marking.{IsUnmarked}
use Rattle.plan_table.proofs.marking.first_marked.Goals as goal

pub loop-i-preserved : goal.loop-i-preserved
loop-i-preserved c j k below low high =
    let rows = c.args.rows.now in
    let n = c.loop-i.i in
    let row = c.index-rows-i.result in
    let here : get_or (map fields_of rows) n [] ≡ fields_of row = get_or-map fields_of rows n row [] c.loop-i-test.true ∙ ap fields_of (sym c.index-rows-i.is) in
    elim (cases_lt j n) [
      | inl before ↦ c.loop-i.invariant j k before low high
      | inr past ↦
          let last : n ≡ j = omega (arith, below, past) in
          subst (λ m. IsUnmarked (get_or (get_or (map fields_of rows) m []) k [])) last (subst (λ f. IsUnmarked (get_or f k [])) (sym here) (c.in_default.ensures k low high))
    ]
