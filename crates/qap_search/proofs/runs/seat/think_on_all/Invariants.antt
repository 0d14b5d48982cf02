use Rattle.std.specs.Prelude.{◌≡◌}
use Rattle.qap_search.proofs.runs.seat.think_on_all.Given as goal

abbrev pub invariant-loop-other : goal.invariant-loop-other
invariant-loop-other g l = record {
  accepted : l.hand.accepted ≡ l.initial.hand.accepted;
  instance : l.hand.instance ≡ l.initial.hand.instance;
  lease : l.hand.lease ≡ l.initial.hand.lease;
}
