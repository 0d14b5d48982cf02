use Rattle.std.proofs.Common.{◌≡◌, ◌∙◌, ◌+◌, ◌-◌, ◌<◌, [], ap, arith, length, map, string_bytes, subst, sym}
use Rattle.std.proofs.lemmas.List.{get_or-map}
use Rattle.plan_table.specs.Trips.{name_at}
use Rattle.plan_table.specs.Names.{HasName}
use Rattle.plan_file.proofs.Lasts.{HoldsOfNone-more, IsUpToLast-found, IsUpToLast-none}
use Rattle.plan_file.proofs.charges.payers.Goals as goal

pub returns-then-has_name : goal.returns-then-has_name
returns-then-has_name c =
    let departments = c.args.departments.now in
    let k = c.loop-k.k in
    let i = length departments - 1 - k in
    let inside : i < length departments = omega (arith, c.loop-k-test.true) in
    let here = get_or-map string_bytes departments i c.index-departments-i.result [] inside ∙ ap string_bytes (sym c.index-departments-i.is) ∙ sym c.as_str.ensures.value in
    IsUpToLast-found (λ j. HasName (map string_bytes c.args.rows.now) (name_at (map string_bytes departments) j)) (length departments) k i (omega (arith, c.loop-k-test.true)) c.loop-k.invariant
    (subst (HasName (map string_bytes c.args.rows.now)) (sym here) (c.has_name.ensures.0 c.if-has_name.true))

pub loop-k-preserved : goal.loop-k-preserved
loop-k-preserved c =
    let departments = c.args.departments.now in
    let k = c.loop-k.k in
    let i = length departments - 1 - k in
    let inside : i < length departments = omega (arith, c.loop-k-test.true) in
    let here = get_or-map string_bytes departments i c.index-departments-i.result [] inside ∙ ap string_bytes (sym c.index-departments-i.is) ∙ sym c.as_str.ensures.value in
    HoldsOfNone-more (λ j. HasName (map string_bytes c.args.rows.now) (name_at (map string_bytes departments) j)) (length departments) k i (omega (arith, c.loop-k-test.true)) c.loop-k.invariant
    (λ holds. absurd (let differs = sym c.if-has_name.false ∙ c.has_name.ensures.1 (subst (HasName (map string_bytes c.args.rows.now)) here holds) in cc))

pub returns : goal.returns
returns c = IsUpToLast-none (λ j. HasName (map string_bytes c.args.rows.now) (name_at (map string_bytes c.args.departments.now) j)) (length c.args.departments.now) (λ j inside past. c.loop-k.invariant j inside (omega (arith, past)))
