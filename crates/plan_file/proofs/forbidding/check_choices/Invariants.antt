use Rattle.std.proofs.Common.{◌<◌, ℕ, map, string_bytes}
use Rattle.plan_table.specs.Grid.{AreAmong}
use Rattle.plan_table.specs.Names.{HasName}
use Rattle.plan_file.specs.Choices.{chooser_at, chosen_at}
use Rattle.plan_file.proofs.forbidding.check_choices.Given as goal

abbrev pub invariant-loop-choice : goal.invariant-loop-choice
invariant-loop-choice l = record {
  departments : (j : ℕ) → j < l.choice-index → HasName (map string_bytes l.departments) (chooser_at l.choices j);
  places : (j : ℕ) → j < l.choice-index → AreAmong (chosen_at l.choices j) (map string_bytes l.places);
}
