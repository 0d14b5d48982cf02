use Rattle.std.proofs.Common.{◌≢◌, ◌<◌, ℕ, []}
use Rattle.plan_file.specs.Choices.{chosen_at}
use Rattle.plan_file.proofs.choosing.check_some.Given as goal

abbrev pub invariant-loop-choice : goal.invariant-loop-choice
invariant-loop-choice l = (j : ℕ) → j < l.choice-index → chosen_at l.choices j ≢ []
