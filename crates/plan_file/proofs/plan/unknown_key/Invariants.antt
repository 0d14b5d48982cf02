use Rattle.toml.specs.View.{table_view}
use Rattle.plan_file.specs.Plan.{AreKnown}
use Rattle.plan_file.proofs.Members.{AreKnownNames}
use Rattle.plan_file.proofs.plan.unknown_key.Given as goal

abbrev pub invariant-loop-key : goal.invariant-loop-key
invariant-loop-key l = record {
  can : (goal.iterator-loop-key).can_next l.key-iterator;
  finite : (goal.iterator-loop-key).is_finite l.key-iterator;
  left : AreKnown (table_view l.table) → AreKnownNames l.key-iterator;
  all : AreKnownNames l.key-iterator → AreKnown (table_view l.table);
}
