use Rattle.std.proofs.Common.{◌≡◌, ◌<◌, ℕ, get_or, length}
use Rattle.qap_cost.specs.Bijection.{IsPerm}
use Rattle.qap_cost.specs.Placement.{Completes}
use Rattle.plan_file.proofs.keeping.completed.Given as goal

abbrev pub invariant-loop-t : goal.invariant-loop-t
invariant-loop-t l = record {
  permutation : IsPerm l.locations.items;
  long : length l.locations.items ≡ l.node.size;
  settled : (s : ℕ) → s < l.t → get_or l.locations.items (get_or l.facilities s 0) 0 ≡ get_or l.places s 0;
  same : Completes l.node l.permutation → l.locations.items ≡ l.permutation;
}
