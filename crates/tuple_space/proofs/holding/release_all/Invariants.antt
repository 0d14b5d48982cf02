use Rattle.std.proofs.Common.{drop}
use Rattle.tuple_space.specs.Held.{numbers_by}
use Rattle.tuple_space.specs.Index.{AreIndexed}
use Rattle.tuple_space.specs.Space.{released}
use Rattle.tuple_space.proofs.PartLemmas.{IsEditedBut}
use Rattle.tuple_space.proofs.holding.release_all.Given as goal

abbrev pub invariant-loop-row : goal.invariant-loop-row
invariant-loop-row l = record {
  edited : IsEditedBut (released l.holder l.moment) (numbers_by l.holder (drop l.row-index l.held)) l.initial.entries.items l.entries.items;
  indexed : AreIndexed l.buckets.items l.entries.items;
}
