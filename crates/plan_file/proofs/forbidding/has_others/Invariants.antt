use Rattle.std.proofs.Common.{◌≡◌, ◌<◌, ℕ}
use Rattle.plan_table.specs.Names.{HasName}
use Rattle.plan_file.specs.Choices.{chooser_at, chosen_at}
use Rattle.plan_file.proofs.forbidding.has_others.Given as goal

abbrev pub invariant-loop-choice : goal.invariant-loop-choice
invariant-loop-choice l = (j : ℕ) → j < l.choice-index → chooser_at l.choices j ≡ l.department → (HasName (chosen_at l.choices j) l.place → ⊥) → ⊥
