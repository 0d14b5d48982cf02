use Rattle.std.proofs.Common.{◌<◌, ℕ}
use Rattle.plan_table.specs.Names.{HasName}
use Rattle.plan_file.specs.Choices.{chooser_at, choosers}
use Rattle.plan_file.proofs.choosing.check_apart.Given as goal

abbrev pub invariant-loop-choice : goal.invariant-loop-choice
invariant-loop-choice l = (j : ℕ) → j < l.choice-index → HasName (choosers l.others) (chooser_at l.choices j) → ⊥
