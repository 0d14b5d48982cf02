use Rattle.std.proofs.Common.{◌≡◌, ◌<◌, ◌≤◌, ◌∙◌, None, ap, false, inl, inr, unsigned_abs, arith, get_or, length, of_z, pos, refl, rules, subst, sym, to_z}
use Rattle.std.specs.Int.{w64}
use Rattle.std.proofs.lemmas.List.{get_or_default}
use Rattle.std.proofs.lemmas.Bool.{false≢true}
use Rattle.plan_table.proofs.ListedFlows.{ArePlaced-more, ArePlaced-none, no_value}
use Rattle.std.proofs.lemmas.List.Elements.{All-get_or}
use Rattle.plan_table.specs.Decimal.{max_entry}
use Rattle.plan_table.specs.Listing.{ArePlaced, added, filled}
use Rattle.plan_table.proofs.trips.place_trips.Goals as goal

pub loop-k-init : goal.loop-k-init
loop-k-init c = ArePlaced-none c.args.departments c.args.adds_up c.args.trips.now c.args.amounts.now _ c.in_ok-cells.cells.items refl c.in_ok-cells.ensures

pub added-requires-clause-before : goal.added-requires-clause-before
added-requires-clause-before c =
    let cells = c.loop-k.cells.items in
    let cell = c.cell_of-cell.result in
    let inside : cell < length cells = omega (arith, c.cell_of-cell.ensures.inside, c.loop-k.invariant.many) in
    let here : get_or cells cell None ≡ c.index.result.now = get_or_default cells cell None c.index.result.now inside ∙ sym c.index.ensures in
    subst (λ o. unsigned_abs (filled o) ≤ max_entry) here (c.loop-k.invariant.small cell)

pub added-requires-clause-amount : goal.added-requires-clause-amount
added-requires-clause-amount c =
    let k = c.loop-k.k in
    let amounts = c.args.amounts.now in
    let amount : to_z w64 (of_z w64 (get_or amounts k (pos 0))) ≡ get_or amounts k (pos 0) = search rules in
    let below : k < length amounts = omega (arith, c.requires.amounts, c.loop-k-test.true) in
    subst (λ z. unsigned_abs z ≤ max_entry) (sym amount) (All-get_or (λ z. unsigned_abs z ≤ max_entry) amounts k (pos 0) below c.requires.small)

pub loop-k-preserved : goal.loop-k-preserved
loop-k-preserved c =
    let k = c.loop-k.k in
    let cells = c.loop-k.cells.items in
    let cell = c.cell_of-cell.result in
    let amounts = c.args.amounts.now in
    let (is_sum, within) = c.in-Some.ensures in
    let inside : cell < length cells = omega (arith, c.cell_of-cell.ensures.inside, c.loop-k.invariant.many) in
    let here : get_or cells cell None ≡ c.index.result.now = get_or_default cells cell None c.index.result.now inside ∙ sym c.index.ensures in
    let amount : to_z w64 (of_z w64 (get_or amounts k (pos 0))) ≡ get_or amounts k (pos 0) = search rules in
    let sum : to_z w64 (of_z w64 c.in-Some.sum) ≡ c.in-Some.sum = search rules in
    let empty = λ (off : c.args.adds_up ≡ false).
    elim c.else-is_some.either as (λ _. get_or cells cell None ≡ None) [
      | inl both ↦ absurd (false≢true (sym off ∙ both.1))
      | inr none ↦ here ∙ no_value c.index.result.now (sym none ∙ c.is_some.ensures)
    ] in
    ArePlaced-more c.args.departments c.args.adds_up c.args.trips.now amounts k cell cells _ _ _ c.loop-k.invariant c.cell_of-cell.ensures.number inside empty amount
    (sum ∙ is_sum ∙ ap (λ o. added o (to_z w64 (of_z w64 (get_or amounts k (pos 0))))) (sym here))
    (subst (λ z. unsigned_abs z ≤ max_entry) (sym sum) within) refl

pub returns : goal.returns
returns c =
    let all : c.loop-k.k ≡ length c.args.trips.now = omega arith in
    subst (λ n. ArePlaced c.args.departments c.args.adds_up c.args.trips.now c.args.amounts.now n c.loop-k.cells.items) all c.loop-k.invariant
