use Rattle.std.proofs.Common.{◌≡◌, length}
use Rattle.plan_file.specs.Freeing.{IsFixedBelow}
use Rattle.plan_file.proofs.keeping.free_in.Given as goal

abbrev pub invariant-loop-f : goal.invariant-loop-f
invariant-loop-f l = record {
  count : length l.free.items ≡ l.f;
  fixed : IsFixedBelow l.node l.f l.free.items;
}
