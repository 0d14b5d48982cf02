use Rattle.std.proofs.Common.{◌≡◌, ◌∙◌, ◌+◌, ◌-◌, ◌<◌, [], ap, arith, length, map, string_bytes, subst, sym}
use Rattle.std.proofs.lemmas.List.{get_or-map}
use Rattle.plan_table.specs.Trips.{name_at}
use Rattle.plan_file.specs.Choices.{IsRestricted}
use Rattle.plan_file.proofs.Lasts.{HoldsOfNone-more, IsUpToLast-found, IsUpToLast-none}
use Rattle.plan_file.proofs.forbidding.restricted.Goals as goal

pub returns-then-is_restricted : goal.returns-then-is_restricted
returns-then-is_restricted c =
    let departments = c.args.departments.now in
    let k = c.loop-k.k in
    let i = length departments - 1 - k in
    let inside : i < length departments = omega (arith, c.loop-k-test.true) in
    let here = get_or-map string_bytes departments i c.index-departments-i.result [] inside ∙ ap string_bytes (sym c.index-departments-i.is) ∙ sym c.as_str.ensures.value in
    IsUpToLast-found (λ j. IsRestricted c.args.charging.now (map string_bytes c.args.places.now) (name_at (map string_bytes departments) j)) (length departments) k i (omega (arith, c.loop-k-test.true)) c.loop-k.invariant
    (subst (IsRestricted c.args.charging.now (map string_bytes c.args.places.now)) (sym here) (c.is_restricted.ensures.0 c.if-is_restricted.true))

pub loop-k-preserved : goal.loop-k-preserved
loop-k-preserved c =
    let departments = c.args.departments.now in
    let k = c.loop-k.k in
    let i = length departments - 1 - k in
    let inside : i < length departments = omega (arith, c.loop-k-test.true) in
    let here = get_or-map string_bytes departments i c.index-departments-i.result [] inside ∙ ap string_bytes (sym c.index-departments-i.is) ∙ sym c.as_str.ensures.value in
    HoldsOfNone-more (λ j. IsRestricted c.args.charging.now (map string_bytes c.args.places.now) (name_at (map string_bytes departments) j)) (length departments) k i (omega (arith, c.loop-k-test.true)) c.loop-k.invariant
    (λ holds. absurd (let differs = sym c.if-is_restricted.false ∙ c.is_restricted.ensures.1 (subst (IsRestricted c.args.charging.now (map string_bytes c.args.places.now)) here holds) in cc))

pub returns : goal.returns
returns c = IsUpToLast-none (λ j. IsRestricted c.args.charging.now (map string_bytes c.args.places.now) (name_at (map string_bytes c.args.departments.now) j)) (length c.args.departments.now) (λ j inside past. c.loop-k.invariant j inside (omega (arith, past)))
