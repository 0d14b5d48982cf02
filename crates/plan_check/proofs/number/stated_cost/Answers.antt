use Rattle.std.proofs.Common.{◌≡◌, List, arith, inr, subst, ℕ}
use Rattle.plan_table.specs.Spelling.{SpellsJust}
use Rattle.plan_check.proofs.number.stated_cost.Goals as goal

pub returns-then-number-cost : goal.returns-then-number-cost
returns-then-number-cost c =
    let just = subst (λ (word : List ℕ). SpellsJust word c.args.scale c.in-Some.number) c.as_bytes.ensures.value c.in-Some.ensures in
    inr (
      c.in_ok-stated.stated.now,
      c.in_ok-stated.ensures,
      λ spells.
          let same : c.args.cost ≡ c.in-Some.number = just.once c.args.cost spells in
          grind (arith, same, c.if-number-cost.true),
    )
