use Rattle.std.proofs.Common.{◌≡◌, List, arith, inl, inr, subst, ℕ}
use Rattle.std.proofs.lemmas.Int.{ints}
use Rattle.plan_table.specs.Spelling.{SpellsJust}
use Rattle.plan_check.proofs.number.stated_bound.Goals as goal

pub returns-then-bound-cost : goal.returns-then-bound-cost
returns-then-bound-cost c =
    let just = subst (λ (word : List ℕ). SpellsJust word c.args.scale c.in-Some.bound) c.as_bytes.ensures.value c.in-Some.ensures in
    inr (inl (
      c.in_ok-stated.stated.now,
      c.in_ok-stated.ensures,
      λ g small most spells.
          let same : g ≡ c.in-Some.bound = just.once g spells in
          absurd (omega (arith, ints)),
    ))
