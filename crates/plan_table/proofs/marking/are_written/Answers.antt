use Rattle.std.proofs.Common.{◌≡◌, ◌∙◌, ◌<◌, [], ap, arith, get_or, inl, inr, length, map, subst, sym}
use Rattle.std.proofs.lemmas.Bool.{cases_lt, false≢true}
use Rattle.std.proofs.lemmas.List.{get_or-map, length-map}
use Rattle.csv.specs.Records.{fields_of}
use Rattle.plan_table.specs.Marking.{IsWritten}
use Rattle.plan_table.proofs.marking.are_written.Goals as goal

pub returns-then-not-written : goal.returns-then-not-written
returns-then-not-written c =
    let rows = c.args.rows.now in
    let n = c.loop-row.row-index in
    let here : get_or (map fields_of rows) n [] ≡ fields_of c.row-item.result = get_or-map fields_of rows n c.row-item.result [] c.loop-row-test.true ∙ ap fields_of (sym c.row-item.is) in
    let below : n < length (map fields_of rows) = omega (arith, length-map rows fields_of, c.loop-row-test.true) in (
      (λ no i k inside low high. absurd (false≢true no)),
      (λ all. sym c.if-not-written.true ∙ c.in_ok-written.ensures.1 (λ k low high. subst (λ f. IsWritten c.args.mark (get_or f k [])) here (all n k below low high))),
    )

pub loop-row-preserved : goal.loop-row-preserved
loop-row-preserved c i k below low high =
    let rows = c.args.rows.now in
    let n = c.loop-row.row-index in
    let here : get_or (map fields_of rows) n [] ≡ fields_of c.row-item.result = get_or-map fields_of rows n c.row-item.result [] c.loop-row-test.true ∙ ap fields_of (sym c.row-item.is) in
    elim (cases_lt i n) [
      | inl before ↦ c.loop-row.invariant i k before low high
      | inr past ↦
          let last : n ≡ i = omega (arith, below, past) in
          subst (λ m. IsWritten c.args.mark (get_or (get_or (map fields_of rows) m []) k [])) last (subst (λ f. IsWritten c.args.mark (get_or f k [])) (sym here) (c.in_ok-written.ensures.0 c.if-not-written.false k low high))
    ]
