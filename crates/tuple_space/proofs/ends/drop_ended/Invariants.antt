use Rattle.std.proofs.Common.{◌≡◌}
use Rattle.std.specs.Prelude.{filter}
use Rattle.tuple_space.specs.Ends.{AreWatched, count_come}
use Rattle.tuple_space.specs.Entry.{is_there}
use Rattle.tuple_space.specs.Index.{AreIndexed}
use Rattle.tuple_space.specs.Rows.{IsRising}
use Rattle.tuple_space.proofs.ends.drop_ended.Given as goal

abbrev pub invariant-loop-number : goal.invariant-loop-number
invariant-loop-number l = record {
  rising : IsRising l.entries.items;
  indexed : AreIndexed l.buckets.items l.entries.items;
  watched : AreWatched l.ends.rows l.moment l.entries.items;
  there : filter (is_there l.moment) l.entries.items ≡ filter (is_there l.moment) l.initial.entries.items;
}

abbrev pub decreases-loop-number : goal.decreases-loop-number
decreases-loop-number l = count_come l.moment l.ends.rows
