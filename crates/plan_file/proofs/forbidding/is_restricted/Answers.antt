use Rattle.std.proofs.Common.{◌∙◌, [], ap, arith, below_more, length, map, refl, string_bytes, subst, sym}
use Rattle.std.proofs.lemmas.List.{get_or-map, length-map}
use Rattle.plan_file.specs.Choices.{IsBarred}
use Rattle.plan_file.proofs.forbidding.is_restricted.Goals as goal

pub returns-then-is_barred : goal.returns-then-is_barred
returns-then-is_barred c =
    let places = c.args.places.now in
    let k = c.loop-place.place-index in
    let here = get_or-map string_bytes places k c.place-item.result [] c.loop-place-test.true ∙ ap string_bytes (sym c.place-item.is) ∙ sym c.as_str.ensures.value in (
      (λ _. (k, omega (arith, c.loop-place-test.true, length-map places string_bytes), subst (IsBarred c.args.charging.now c.args.department.now) (sym here) (c.is_barred.ensures.0 c.if-is_barred.true))),
      (λ _. refl),
    )

pub loop-place-preserved : goal.loop-place-preserved
loop-place-preserved c =
    let places = c.args.places.now in
    let here = get_or-map string_bytes places c.loop-place.place-index c.place-item.result [] c.loop-place-test.true ∙ ap string_bytes (sym c.place-item.is) ∙ sym c.as_str.ensures.value in
    below_more _ _ c.loop-place.invariant (λ barred. absurd (let differs = sym c.if-is_barred.false ∙ c.is_barred.ensures.1 (subst (IsBarred c.args.charging.now c.args.department.now) here barred) in cc))

pub returns : goal.returns
returns c = (
  (λ on. absurd (cc)),
  (λ h. absurd (c.loop-place.invariant h.0 (omega (arith, h.1, length-map c.args.places.now string_bytes)) h.2)),
)
