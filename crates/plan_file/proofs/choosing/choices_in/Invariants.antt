use Rattle.std.proofs.Common.{◌≡◌, ◌++◌, List}
use Rattle.toml.proofs.Views.{Entry}
use Rattle.toml.specs.View.{members_view}
use Rattle.plan_file.specs.Charging.{AreChoices}
use Rattle.plan_file.proofs.choosing.choices_in.Given as goal

abbrev pub invariant-choices : goal.invariant-choices
invariant-choices l = record {
  can : (goal.iterator-choices).can_next l.department-iterator;
  finite : (goal.iterator-choices).is_finite l.department-iterator;
  done : List Entry;
  whole : l.table.entries ≡ done ++ l.department-iterator;
  read : AreChoices (members_view done) l.choices.items;
}
