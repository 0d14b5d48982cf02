use Rattle.std.proofs.Common.{◌≡◌, ◌++◌, List}
use Rattle.toml.proofs.Views.{Entry}
use Rattle.toml.specs.View.{members_view}
use Rattle.plan_file.specs.Plan.{ArePins}
use Rattle.plan_file.proofs.values.pins_of.Given as goal

abbrev pub invariant-pins : goal.invariant-pins
invariant-pins l = record {
  can : (goal.iterator-pins).can_next l.department-iterator;
  finite : (goal.iterator-pins).is_finite l.department-iterator;
  done : List Entry;
  whole : l.table.entries ≡ done ++ l.department-iterator;
  read : ArePins (members_view done) l.pins.items;
}
